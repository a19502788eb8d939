use Rattle.std.proofs.Common.{◌∙◌, ap, arith}
use Rattle.ccan_object.specs.Profile.{objects_in}
use Rattle.ccan_handler.proofs.Watches.{nothing_read, reads_more, all_read}
use Rattle.ccan_handler.proofs.watch.flags.Goals as goal

pub loop-place-init : goal.loop-place-init
loop-place-init g c = record { below = omega arith; reads = nothing_read c.args.flag }

pub loop-place-preserved : goal.loop-place-preserved
loop-place-preserved g c =
    let so_far = c.loop-place.invariant in
    record {
      below = c.with_bit-word.ensures.below;
      reads = reads_more c.args.flag c.loop-place.place _ _ _ c.look-shown.result c.look-shown.ensures c.nth.ensures
          (rw c.of.ensures at c.with_bit-word.ensures.value) so_far.reads;
    }

pub returns-clause-adds : goal.returns-clause-adds
returns-clause-adds g c =
    let all = c.objects-place-end.ensures.number ∙ ap objects_in c.profile.ensures in
    all_read c.args.flag c.loop-place.place _ (omega (arith, all)) c.loop-place.invariant.reads
