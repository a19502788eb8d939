use Rattle.std.proofs.Common.{◌≡◌, ◌++◌, map, take}
use Rattle.std.specs.List.{enumerate_from}
use Rattle.ccan_lab.specs.Rows.{final_row}
use Rattle.ccan_lab.proofs.rows.add_finals.Given as goal

-- the lines of the objects so far
abbrev pub invariant-loop-index : goal.invariant-loop-index
invariant-loop-index l =
    l.rows ≡ l.initial.rows ++ map (λ object. final_row object.0 object.1) (take l.index (enumerate_from 1 l.records))
