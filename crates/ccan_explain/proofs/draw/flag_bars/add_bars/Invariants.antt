use Rattle.std.proofs.Common.{◌≡◌, ◌++◌, List, map, Some}
use Rattle.std.specs.Prelude.{filter, slice_get}
use Rattle.std.specs.List.{range_with_len}
use Rattle.ccan_explain.specs.declared.draw.column.Column.{Column}
use Rattle.ccan_explain.specs.Bar.{begins}
use Rattle.ccan_explain.specs.FlagBars.{AllEndIn, start_of}
use Rattle.ccan_explain.proofs.draw.flag_bars.add_bars.Given as goal

-- the bars of the rows so far
abbrev pub invariant-loop-row : goal.invariant-loop-row
invariant-loop-row l =
    record {
      starts : map start_of l.bars.items
          ≡ map start_of l.initial.bars.items
          ++ map (λ row. (l.place, l.column.flag, row)) (filter (begins l.column.shown.items) (range_with_len 0 l.row));
      ends : (columns : List Column) → slice_get columns l.place ≡ Some l.column → AllEndIn columns l.initial.bars.items
          → AllEndIn columns l.bars.items;
    }
