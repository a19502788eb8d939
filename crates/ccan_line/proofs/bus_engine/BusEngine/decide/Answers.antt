use Rattle.std.proofs.Common.{sym, subst}
use Rattle.ccan_line.specs.declared.bus_point.BusPoint.{BusPoint}
use Rattle.ccan_line.specs.BusEngine.{bus_course, bus_rest}
use Rattle.ccan_line.specs.Engine.{DecidesTo}
use Rattle.ccan_line.proofs.SameBus.{fixed_same}
use Rattle.ccan_line.proofs.bus_engine.BusEngine.decide.Goals as goal

pub returns-in-Deciding-clause-comes : goal.returns-in-Deciding-clause-comes
returns-in-Deciding-clause-comes c decides =
    let profile = c.args.profile in
    let line = c.args.line.now in
    record {
      each = λ past led. let a = c.decided.ensures.comes.each past led in (
        a.0,
        a.1,
        subst (λ (s : BusPoint). DecidesTo (bus_rest profile line past s) (bus_course profile line a.0 c.decided.result))
            (sym c.in-Deciding.is) a.2,
      );
    }

pub returns-in-Deciding-clause-fixed : goal.returns-in-Deciding-clause-fixed
returns-in-Deciding-clause-fixed c = fixed_same c.decided.ensures.same
