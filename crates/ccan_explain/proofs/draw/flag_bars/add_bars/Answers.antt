use Rattle.ccan_explain.specs.Bar.{begins}
use Rattle.ccan_explain.proofs.Lists.{passed_go_on}
use Rattle.ccan_explain.proofs.draw.flag_bars.add_bars.Goals as goal

pub loop-row-preserved : goal.loop-row-preserved
loop-row-preserved c =
    let column = c.args.column.now in
    let so_far = c.loop-row.invariant in
    let more = c.in_ok-add_bar.ensures in
    record {
      starts = passed_go_on (λ row. (c.args.place, column.flag, row)) (begins column.shown.items) _ _ _ c.loop-row.row so_far.starts
          more.starts;
      ends = λ columns there all. more.ends columns there (so_far.ends columns there all);
    }
