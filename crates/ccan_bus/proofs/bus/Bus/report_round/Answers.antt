use Rattle.std.proofs.Common.{sym}
use Rattle.ccan_bus.proofs.Profiles.{same_twice}
use Rattle.ccan_bus.proofs.Completes.{steps_run, load_refused}
use Rattle.ccan_bus.proofs.bus.Bus.report_round.Goals as goal

pub returns-in-Some : goal.returns-in-Some
returns-in-Some g c =
    record {
      same = c.load-loading.ensures.same;
      goes_on =
          load_refused c.args.line.now c.args.tries c.args.self.now c.load-loading.new.self c.load-loading.result
          c.in-Some.answer _ (sym c.in-Some.ensures) c.of_refused_load.ensures c.load-loading.ensures.goes_on;
    }

pub returns-in-None : goal.returns-in-None
returns-in-None g c =
    record {
      same = same_twice c.load-loading.ensures.same c.decide-decision.ensures.same;
      goes_on =
          steps_run c.args.line.now c.args.tries c.args.self.now c.load-loading.new.self c.decide-decision.new.self
          c.load-loading.result c.decide-decision.result c.complete-end.result _ (sym c.in-None.ensures) c.of_steps.ensures
          c.load-loading.ensures.goes_on c.decide-decision.ensures.goes_on c.complete-end.ensures;
    }
