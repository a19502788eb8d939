use Rattle.std.proofs.Common.{ap, subst, ◌∙◌}
use Rattle.ccan_line.specs.declared.bus_point.BusPoint.{BusPoint}
use Rattle.ccan_line.specs.BusEngine.{bus_rest, IsBusPoint}
use Rattle.ccan_line.specs.Engine.{after_look}
use Rattle.ccan_line.proofs.BusKinds.{asks_looks}
use Rattle.ccan_line.proofs.Courses.{some_left}
use Rattle.ccan_line.proofs.SameBus.{fixed_same}
use Rattle.ccan_line.proofs.bus_engine.BusEngine.after_look.Goals as goal

pub returns-in-Asking-clause-comes : goal.returns-in-Asking-clause-comes
returns-in-Asking-clause-comes c =
    let profile = c.args.profile in
    let line = c.args.line.now in
    let shown = c.args.shown.now in
    let is = c.in-Asking.is in
    let here = subst (λ (s : BusPoint). IsBusPoint profile line s) is c.requires.within.0 in
    record {
      each = λ past led. (
        past,
        led,
        ap (λ (s : BusPoint). after_look shown (bus_rest profile line past s)) is
            ∙ ap (after_look shown) (asks_looks profile line past c.in-Asking.looks c.in-Asking.word here.0 here.1)
            ∙ c.ask_course.ensures.comes past,
      );
    }

pub returns-in-Seeking-clause-comes : goal.returns-in-Seeking-clause-comes
returns-in-Seeking-clause-comes c =
    let profile = c.args.profile in
    let line = c.args.line.now in
    let shown = c.args.shown.now in
    let is = c.in-Seeking.is in
    let held = subst (λ (s : BusPoint). IsBusPoint profile line s) is c.requires.within.0 in
    record {
      each = λ past led. let a = c.seek_course.ensures.comes.each past led in (
        a.0,
        a.1,
        ap (λ (s : BusPoint). after_look shown (bus_rest profile line past s)) is
            ∙ ap (after_look shown) (some_left profile line past c.in-Seeking.aim c.in-Seeking.object held.greatest)
            ∙ a.2,
      );
    }

pub returns-in-Seeking-clause-fixed : goal.returns-in-Seeking-clause-fixed
returns-in-Seeking-clause-fixed c = fixed_same c.seek_course.ensures.same
