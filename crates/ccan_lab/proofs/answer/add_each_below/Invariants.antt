use Rattle.std.proofs.Common.{◌≡◌, ◌++◌, Bor, List, ℕ, codes, string_bytes, take}
use Rattle.std.specs.List.{flat_map}
use Rattle.ccan_lab.proofs.answer.add_each_below.Given as goal

-- those so far
abbrev pub invariant-loop-begin : goal.invariant-loop-begin
invariant-loop-begin l =
    string_bytes l.text ≡ string_bytes l.initial.text
    ++ flat_map (λ (begin : Bor (List ℕ)). codes "  " ++ (begin.now ++ codes "\n")) (take l.begin-index l.begins)
