use Rattle.ccan_bus.proofs.Steps.{rounds_run}
use Rattle.ccan_bus.proofs.bus.Bus.round.Goals as goal

pub returns-clause-goes_on : goal.returns-clause-goes_on
returns-clause-goes_on g c =
    rounds_run c.args.line.now c.args.tries c.args.self.now c.report_round.new.self c.report_round.result
    c.report_round.ensures.goes_on
