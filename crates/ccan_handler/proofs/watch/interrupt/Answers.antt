use Rattle.std.proofs.Common.{◌≡◌, ◌+◌, ◌-◌, ◌∙◌, ap, arith}
use Rattle.ccan_object.specs.Profile.{objects_in}
use Rattle.ccan_ram.specs.declared.flag.Flag.TheVariants.{IntPnd}
use Rattle.ccan_handler.specs.Watch.{in_turn}
use Rattle.ccan_handler.proofs.Watches.{none_yet, none_more, first_shows, none_at_all, asks}
use Rattle.ccan_handler.proofs.watch.interrupt.Goals as goal

pub loop-number-init : goal.loop-number-init
loop-number-init g c = record { some = omega arith; none = none_yet in_turn IntPnd }

pub loop-number-preserved : goal.loop-number-preserved
loop-number-preserved g c =
    let so_far = c.loop-number.invariant in
    let n = c.loop-number.number in
    let next : n + 1 - 1 ≡ n - 1 + 1 = omega (arith, so_far.some) in
    record {
      some = omega arith;
      none = rw next (none_more in_turn (n - 1) _ c.look-shown.result c.look-shown.ensures
          (omega (arith, c.nth.ensures, so_far.some))
          IntPnd c.if-shown.false so_far.none);
    }

pub returns-then-shown-clause-adds : goal.returns-then-shown-clause-adds
returns-then-shown-clause-adds g c =
    let so_far = c.loop-number.invariant in
    let n = c.loop-number.number in
    let all = c.objects-number-end.ensures.number ∙ ap objects_in c.profile.ensures in
    rw c.if-status_pending.false (asks (n - 1) _ (omega (arith, so_far.some, all)) (omega (arith, so_far.some, c.from.ensures))
    (first_shows in_turn (n - 1) _ c.look-shown.result c.look-shown.ensures (omega (arith, c.nth.ensures, so_far.some)) IntPnd
    c.if-shown.true so_far.none))

pub returns-clause-adds : goal.returns-clause-adds
returns-clause-adds g c =
    let all = c.objects-number-end.ensures.number ∙ ap objects_in c.profile.ensures in
    rw c.if-status_pending.false (none_at_all _ (omega (arith, all)) c.loop-number.invariant.none)
