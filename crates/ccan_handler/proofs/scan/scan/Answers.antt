-- The loop has passed over the objects before its number; a visit ends the scan at one, or passes over one more.
use Rattle.std.proofs.Common.{arith, ap, ◌∙◌}
use Rattle.ccan_object.specs.Profile.{objects_in}
use Rattle.ccan_ram.proofs.Calls.{Goes-then}
use Rattle.ccan_handler.proofs.Scans.{passed_more, stops, found_at, ends, held_in_turn, held_later, made_in_turn, refused_in_turn}
use Rattle.ccan_handler.proofs.scan.scan.Goals as goal

pub visit-requires : goal.visit-requires
visit-requires g c =
    let so_far = c.loop-number.invariant in
    let all = c.objects-number-end.ensures.number ∙ ap objects_in c.profile.ensures in
    record {
      held = held_later _ so_far.passes
          (held_in_turn _ _ _ _ _ c.requires.held.least so_far.below c.nth-object.ensures all (omega arith));
    }

pub loop-number-preserved : goal.loop-number-preserved
loop-number-preserved g c =
    let so_far = c.loop-number.invariant in
    record {
      below = omega arith;
      passes = passed_more _ _ _ _ _ so_far.below c.nth-object.ensures so_far.passes
          (rw c.in-Ok-None.field-0-is at c.in-Ok-None.ensures.adds);
    }

pub returns-in-Ok-Some-clause-adds : goal.returns-in-Ok-Some-clause-adds
returns-in-Ok-Some-clause-adds g c =
    let so_far = c.loop-number.invariant in
    let all = c.objects-number-end.ensures.number ∙ ap objects_in c.profile.ensures in
    let held = held_in_turn _ _ _ _ _ c.requires.held.least so_far.below c.nth-object.ensures all (omega arith) in
    rw c.in-Ok-Some.field-0-is
    (found_at _ _ _ _ _ _ so_far.below c.nth-object.ensures held so_far.passes
    (rw c.in-Ok-Some.field-0-is at c.in-Ok-Some.ensures.adds))

pub returns-in-Ok-Some-clause-made : goal.returns-in-Ok-Some-clause-made
returns-in-Ok-Some-clause-made g c =
    let so_far = c.loop-number.invariant in
    rw c.in-Ok-Some.field-0-is
    (made_in_turn so_far.passes _ _ _ _ so_far.below c.nth-object.ensures c.in-Ok-Some.stored
    (rw c.in-Ok-Some.field-0-is at c.in-Ok-Some.ensures.tells))

pub returns-in-Err-clause-adds : goal.returns-in-Err-clause-adds
returns-in-Err-clause-adds g c =
    let so_far = c.loop-number.invariant in
    let all = c.objects-number-end.ensures.number ∙ ap objects_in c.profile.ensures in
    let held = held_in_turn _ _ _ _ _ c.requires.held.least so_far.below c.nth-object.ensures all (omega arith) in
    Goes-then so_far.passes c.in-Err.ensures.adds
    (λ seen xs ys p q. stops _ _ _ _ _ _ seen xs ys _ so_far.below c.nth-object.ensures held p q)

pub returns-in-Err-clause-refused : goal.returns-in-Err-clause-refused
returns-in-Err-clause-refused g c =
    let so_far = c.loop-number.invariant in
    refused_in_turn so_far.passes _ _ _ _ so_far.below c.nth-object.ensures c.args.tries c.in-Err.why c.in-Err.ensures.tells

pub returns-clause-adds : goal.returns-clause-adds
returns-clause-adds g c =
    let all = c.objects-number-end.ensures.number ∙ ap objects_in c.profile.ensures in
    ends _ _ _ _ (omega (arith, all, c.requires.held)) c.loop-number.invariant.passes
