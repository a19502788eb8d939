use Rattle.std.proofs.Common.{◌∙◌, ap, arith}
use Rattle.ccan_object.specs.Profile.{objects_in}
use Rattle.ccan_handler.proofs.Moments.{skips_more, stops_at, started_later}
use Rattle.ccan_handler.proofs.moment.choose_among.Goals as goal

pub loop-place-preserved : goal.loop-place-preserved
loop-place-preserved g c =
    skips_more c.args.sending c.args.shown c.args.tries c.loop-place.place _ c.nth-object.ensures c.loop-place.invariant
    (rw c.in-Ok-None.field-0-is at c.in-Ok-None.ensures.adds)

pub returns-in-Ok-Some : goal.returns-in-Ok-Some
returns-in-Ok-Some g c =
    let test = c.loop-place-test.true in
    let all = c.objects-place-end.ensures.number ∙ ap objects_in c.profile.ensures in
    record {
      adds = stops_at c.args.sending c.args.shown c.args.tries c.loop-place.place _ _ c.nth-object.ensures
          (omega (arith, all, test)) c.loop-place.invariant (rw c.in-Ok-Some.field-0-is at c.in-Ok-Some.ensures.adds);
      made = started_later c.args.sending _ c.loop-place.invariant (rw c.in-Ok-Some.field-0-is at c.in-Ok-Some.ensures.made);
    }

pub returns-in-Err-clause-adds : goal.returns-in-Err-clause-adds
returns-in-Err-clause-adds g c =
    let test = c.loop-place-test.true in
    let all = c.objects-place-end.ensures.number ∙ ap objects_in c.profile.ensures in
    stops_at c.args.sending c.args.shown c.args.tries c.loop-place.place _ _ c.nth-object.ensures (omega (arith, all, test))
    c.loop-place.invariant c.in-Err.ensures.adds
