use Rattle.std.proofs.Common.{◌≡◌, ◌++◌, Bor, List, ℕ, string_bytes, take}
use Rattle.std.specs.Global.{Vec}
use Rattle.std.specs.List.{flat_map}
use Rattle.ccan_lab.specs.Sorted.{texts_of}
use Rattle.ccan_lab.specs.Summary.{same_part}
use Rattle.ccan_lab.proofs.summary.add_same_parts.Given as goal

-- the places so far
abbrev pub invariant-loop-lines : goal.invariant-loop-lines
invariant-loop-lines l =
    string_bytes l.text ≡ string_bytes l.initial.text
    ++ flat_map (λ (lines : Vec (Bor (List ℕ))). same_part (texts_of lines.items)) (take l.lines-index l.all)
