use Rattle.std.proofs.Common.{◌≡◌, ◌++◌, map, take}
use Rattle.ccan_lab.specs.Rows.{row_text}
use Rattle.ccan_lab.proofs.rows.add_ends.Given as goal

-- the lines that ended so far
abbrev pub invariant-loop-end : goal.invariant-loop-end
invariant-loop-end l =
    l.rows ≡ l.initial.rows ++ map (row_text l.port) (take l.end-index l.ends)
