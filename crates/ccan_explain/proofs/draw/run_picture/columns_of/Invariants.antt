use Rattle.std.proofs.Common.{◌≡◌, map}
use Rattle.std.specs.List.{flat_map}
use Rattle.ccan_explain.specs.Column.{AreColumns, four_flags, shown_in, touched_of_first}
use Rattle.ccan_explain.proofs.draw.run_picture.columns_of.Given as goal

-- the columns of the objects so far
abbrev pub invariant-loop-place : goal.invariant-loop-place
invariant-loop-place l =
    record {
      flags : map shown_in l.columns.items ≡ flat_map four_flags (touched_of_first l.place l.steps);
      each : AreColumns l.steps l.columns.items;
    }
