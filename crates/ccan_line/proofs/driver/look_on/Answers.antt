-- Each look leads to the next one, and the last to what follows it.
use Rattle.std.proofs.Common.{◌≡◌, ◌<◌, ◌≤◌, refl, sym, ap, subst, ◌∙◌, arith}
use Rattle.ccan_object.specs.declared.profile.Profile.{Profile}
use Rattle.ccan_object.specs.Profile.{Holds}
use Rattle.ccan_ram.specs.Terms.{Terms}
use Rattle.ccan_ram.proofs.Calls.{Goes-none, Goes-then}
use Rattle.ccan_line.specs.Engine.{after_look, course_rest}
use Rattle.ccan_line.proofs.Leading.{course_weaker, leads_both, leads_look, leads_none}
use Rattle.ccan_line.proofs.driver.look_on.Goals as goal

pub loop-next-init : goal.loop-next-init
loop-next-init g c =
    let rest = g.E.Engine.rest c.args.profile c.args.line.now in
    record {
      unchanged = refl;
      same = c.requires.profile;
      within = c.requires.within;
      held = c.requires.held;
      is = c.requires.is;
      asks = c.requires.asks;
      less = omega arith;
      leads = Goes-none (λ seen _ state led tries.
          leads_none _ tries (rest state c.args.point.now) (rest state c.args.point.now) seen refl);
    }

pub look-shown-requires : goal.look-shown-requires
look-shown-requires g c =
    let invariant = c.loop-next.invariant in
    record { held = subst (λ (p : Profile). Holds p c.loop-next.object) (sym invariant.same) invariant.held }

pub look_again-requires : goal.look_again-requires
look_again-requires g c = record { within = c.loop-next.invariant.within }

pub loop-next-smaller : goal.loop-next-smaller
loop-next-smaller g c = c.in-Some.ensures.within.1

pub loop-next-preserved : goal.loop-next-preserved
loop-next-preserved g c =
    let line = c.args.line.now in
    let rest = g.E.Engine.rest c.args.profile line in
    let left = g.E.Engine.left c.args.profile line in
    let here = c.loop-next.here in
    let there = c.look_again.new.point in
    let terms = (g.A.Access.passes c.args.access.now).terms in
    let invariant = c.loop-next.invariant in
    let again = c.in-Some.ensures in
    record {
      unchanged = invariant.unchanged;
      same = ap (λ (t : Terms). t.profile) c.look-shown.ensures.same ∙ invariant.same;
      within = again.within.0;
      held = again.held;
      is = again.is;
      asks = again.asks;
      less =
          let less : left there < left here = again.within.1 in
          let before : left here ≤ left c.args.point.now = invariant.less in
          omega (arith, less, before);
      leads = Goes-then invariant.leads c.look-shown.ensures (λ seen xs ys f look state led tries.
          leads_both terms tries (rest state c.args.point.now) (rest state here) (rest state there) seen xs ys (f state led tries)
          (leads_look terms tries (rest state here) (rest state there) c.loop-next.object c.look-shown.result _ ys
          (invariant.asks state led) (again.comes state led) look));
    }

pub after_look-requires-clause-within : goal.after_look-requires-clause-within
after_look-requires-clause-within g c =
    let within = g.E.Engine.within c.args.profile (g.E.Engine.fixed c.loop-next.engine) c.args.line.now in
    subst within (sym c.in-None.ensures.none) c.loop-next.invariant.within

pub after_look-requires-clause-is : goal.after_look-requires-clause-is
after_look-requires-clause-is g c =
    let act = g.E.Engine.act c.args.profile c.loop-next.engine c.args.line.now in
    ap act c.in-None.ensures.none ∙ c.loop-next.invariant.is

pub returns-in-None-clause-leads : goal.returns-in-None-clause-leads
returns-in-None-clause-leads g c =
    let rest = g.E.Engine.rest c.args.profile c.args.line.now in
    let here = c.loop-next.here in
    let terms = (g.A.Access.passes c.args.access.now).terms in
    let shown = c.look-shown.result in
    let invariant = c.loop-next.invariant in
    Goes-then invariant.leads c.look-shown.ensures (λ seen xs ys f look. record {
      each = λ state was.
          let led = subst (g.E.Engine.led_to state) (sym invariant.unchanged) was in
          let a = c.after_look.ensures.comes.each state led in (
            a.0,
            a.1,
            λ tries. leads_both terms tries (rest state c.args.point.now) (rest state here)
                (course_rest rest a.0 c.after_look.result) seen xs ys (f state led tries)
                (leads_look terms tries (rest state here) (course_rest rest a.0 c.after_look.result) c.loop-next.object shown _ ys
                (invariant.asks state led) (ap (λ p. after_look shown (rest state p)) (sym c.in-None.ensures.none) ∙ a.2) look),
          );
    })

pub returns-in-None-clause-within : goal.returns-in-None-clause-within
returns-in-None-clause-within g c =
    let line = c.args.line.now in
    let left = g.E.Engine.left c.args.profile line in
    let here = c.loop-next.here in
    let there = c.look_again.new.point in
    let within = g.E.Engine.within c.args.profile (g.E.Engine.fixed c.after_look.new.self) line in
    let same : left there ≡ left here = ap left c.in-None.ensures.none in
    let before : left here ≤ left c.args.point.now = c.loop-next.invariant.less in
    course_weaker (λ next. within next × (left next < left there)) (λ next. within next × (left next < left c.args.point.now))
    c.after_look.result (λ next is.
    let less : left next < left there = is.1 in
    (is.0, omega (arith, less, same, before))) c.after_look.ensures.within

pub returns-in-None-clause-fixed : goal.returns-in-None-clause-fixed
returns-in-None-clause-fixed g c = c.after_look.ensures.fixed ∙ ap g.E.Engine.fixed c.loop-next.invariant.unchanged
