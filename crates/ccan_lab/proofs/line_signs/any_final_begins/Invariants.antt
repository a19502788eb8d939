use Rattle.std.proofs.Common.{◌≡◌, false, take}
use Rattle.std.specs.List.{enumerate_from, list_any}
use Rattle.ccan_lab.specs.Rows.{begins_so, final_row}
use Rattle.ccan_lab.proofs.line_signs.any_final_begins.Given as goal

-- none of the objects so far has such a line
abbrev pub invariant-loop-index : goal.invariant-loop-index
invariant-loop-index l =
    list_any (λ object. begins_so l.begin (final_row object.0 object.1)) (take l.index (enumerate_from 1 l.records)) ≡ false
