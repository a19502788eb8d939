use Rattle.std.proofs.Common.{◌++◌, ap, map, refl, ◌∙◌}
use Rattle.std.proofs.lemmas.Option.{slice_get_read}
use Rattle.ccan_explain.specs.declared.draw.column.Column.{Column}
use Rattle.ccan_explain.specs.FlagBars.{start_of, starts_in}
use Rattle.ccan_explain.proofs.Lists.{places_go_on}
use Rattle.ccan_explain.proofs.draw.flag_bars.bars_of.Goals as goal

pub loop-place-preserved : goal.loop-place-preserved
loop-place-preserved c =
    let columns = c.args.columns.now in
    let place = c.loop-place.place in
    let item = c.index-columns-place in
    let within = c.loop-place-test.true in
    let so_far = c.loop-place.invariant in
    let more = c.in_ok-add_bars.ensures in
    record {
      starts = places_go_on starts_in _ _ columns place item.result within so_far.starts
          (more.starts ∙ ap (λ (column : Column). map start_of c.loop-place.bars.items ++ starts_in (place, column)) item.is);
      ends = more.ends columns (slice_get_read columns _ place item.result refl within item.is) so_far.ends;
    }
