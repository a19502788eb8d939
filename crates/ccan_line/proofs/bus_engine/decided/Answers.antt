use Rattle.std.proofs.Common.{sym, subst}
use Rattle.ccan_line.specs.declared.bus_line.BusLine.{BusLine}
use Rattle.ccan_line.specs.BusEngine.{bus_course, decides_next}
use Rattle.ccan_line.specs.Engine.{DecidesTo}
use Rattle.ccan_line.proofs.bus_engine.decided.Goals as goal

pub returns-clause-comes : goal.returns-clause-comes
returns-clause-comes c =
    let profile = c.args.profile in
    let line = c.args.line.now in
    let course = c.after_decision in
    record {
      each = λ past led. let a = c.decide-decision.ensures.goes_on.each past led in (
        a.0,
        a.1,
        subst (λ (l : BusLine). DecidesTo (decides_next profile l past) (bus_course profile line a.0 course.result))
            (sym c.in-Round.is) (a.0, c.decide-decision.result, a.2, sym (course.ensures.comes a.0)),
      );
    }
