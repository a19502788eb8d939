use Rattle.std.proofs.Common.{◌≡◌, map, take}
use Rattle.ccan_explain.specs.FlagBars.{AllEndIn, start_of, starts_of}
use Rattle.ccan_explain.proofs.draw.flag_bars.bars_of.Given as goal

-- the bars of the columns so far
abbrev pub invariant-loop-place : goal.invariant-loop-place
invariant-loop-place l =
    record {
      starts : map start_of l.bars.items ≡ starts_of (take l.place l.columns);
      ends : AllEndIn l.columns l.bars.items;
    }
