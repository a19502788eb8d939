use Rattle.std.proofs.Common.{◌≡◌, map, take}
use Rattle.ccan_lab.specs.Rows.{rows_of}
use Rattle.ccan_lab.proofs.rows.all_rows.Given as goal

-- the lines of the outcomes so far
abbrev pub invariant-loop-ending : goal.invariant-loop-ending
invariant-loop-ending l =
    l.all.items ≡ map rows_of (take l.ending-index l.endings)
