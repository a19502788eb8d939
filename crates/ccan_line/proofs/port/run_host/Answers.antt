use Rattle.std.proofs.Common.{◌≡◌}
use Rattle.ccan_object.specs.Interface.{zero_registers}
use Rattle.ccan_line.specs.Host.{HostLineMeans}
use Rattle.ccan_line.proofs.Rows.{runs_from}
use Rattle.ccan_line.proofs.port.run_host.Goals as goal

pub returns-clause-runs : goal.returns-clause-runs
returns-clause-runs g c =
    runs_from (λ state value. state ≡ value) (λ terms. HostLineMeans terms c.args.tries) _ _ zero_registers
    (search) c.run_lines.ensures.runs
