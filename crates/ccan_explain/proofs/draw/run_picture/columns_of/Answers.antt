use Rattle.std.proofs.Common.{rules, sym}
use Rattle.std.specs.List.{list_any}
use Rattle.ccan_explain.specs.Column.{four_flags, touched_of_first, touches}
use Rattle.ccan_explain.proofs.Lists.{lists_go_on}
use Rattle.ccan_explain.proofs.draw.run_picture.columns_of.Goals as goal

pub loop-place-init : goal.loop-place-init
unfolding touched_of_first
loop-place-init c = search rules

pub loop-place-preserved : goal.loop-place-preserved
unfolding touched_of_first
loop-place-preserved c =
    let so_far = c.loop-place.invariant in
    let more = c.in_ok-add_if_touched.ensures in
    let named = rw c.unwrap-object.ensures at c.new.ensures.number in
    record {
      flags = lists_go_on four_flags (λ object. list_any (touches object) c.args.steps.now) _ _ c.loop-place.place
          c.unwrap-object.result (sym named) so_far.flags more.flags;
      each = more.each so_far.each;
    }
