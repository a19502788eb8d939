use Rattle.ccan_ram.proofs.Calls.{Goes-weaker}
use Rattle.ccan_line.proofs.Rows.{of_equal}
use Rattle.ccan_line.proofs.host.IfaceSide.run_line.Goals as goal

pub returns-clause-runs : goal.returns-clause-runs
returns-clause-runs g c = Goes-weaker c.run_host_line.ensures (λ seen added _ _ m. of_equal m)
