use Rattle.std.proofs.Common.{◌≡◌, ◌++◌, Bor, List, ℕ, string_bytes, take}
use Rattle.std.specs.List.{flat_map}
use Rattle.ccan_lab.specs.Summary.{choice_text}
use Rattle.ccan_lab.proofs.summary.add_choice_lines.Given as goal

-- the lines so far
abbrev pub invariant-loop-line : goal.invariant-loop-line
invariant-loop-line l =
    string_bytes l.text
    ≡ string_bytes l.initial.text ++ flat_map (λ (line : Bor (List ℕ)). choice_text line.now) (take l.line-index l.lines)
