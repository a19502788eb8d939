use Rattle.ccan_bus.specs.Past.{opened}
use Rattle.ccan_bus.specs.Bus.{LedTo}
use Rattle.ccan_line.specs.BusPort.{BusLineMeans}
use Rattle.ccan_line.proofs.Rows.{runs_from}
use Rattle.ccan_line.proofs.port.run_bus.Goals as goal

pub returns-clause-runs : goal.returns-clause-runs
returns-clause-runs g c =
    runs_from LedTo (λ terms. BusLineMeans terms c.args.tries) _ _ (opened c.args.nodes) (search) c.run_lines.ensures.runs
