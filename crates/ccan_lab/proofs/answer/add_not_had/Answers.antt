use Rattle.std.proofs.Common.{◌≡◌, ◌++◌, ◌∷◌, [], Bor, List, ℕ, OnOk, codes, length, get_or, string_bytes, refl, subst, arith, rules}
use Rattle.ccan_lab.specs.Answer.{each_below, not_had}
use Rattle.ccan_lab.specs.Sorted.{texts_of}
use Rattle.ccan_lab.proofs.answer.add_not_had.Goals as goal

one_not_had : (begins : List (Bor (List ℕ))) (none : Bor (List ℕ)) → length begins ≡ 1
    → codes " has a line that begins so: " ++ ((get_or begins 0 none).now ++ codes "\n") ≡ not_had (texts_of begins)
one_not_had [] none one = absurd (omega (arith, one))
one_not_had (first ∷ []) none one = refl
one_not_had (first ∷ second ∷ more) none one = absurd (omega (arith, one))

more_not_had : (begins : List (Bor (List ℕ))) → (length begins ≡ 1 → ⊥)
    → codes " has lines that begin so:\n" ++ each_below (texts_of begins) ≡ not_had (texts_of begins)
more_not_had [] not = refl
more_not_had (first ∷ []) not = absurd (not refl)
more_not_had (first ∷ second ∷ more) not = refl

pub returns-then-begins-eq1 : goal.returns-then-begins-eq1
returns-then-begins-eq1 c =
    subst (λ (t : List ℕ). OnOk c.add_line_not_had.result
    (string_bytes c.add_line_not_had.new.text ≡ string_bytes c.args.text.now ++ t))
    (one_not_had c.args.begins.now _ (search rules)) c.add_line_not_had.ensures

pub returns-else-begins-eq1 : goal.returns-else-begins-eq1
returns-else-begins-eq1 c =
    subst (λ (t : List ℕ). OnOk c.add_lines_not_had.result
    (string_bytes c.add_lines_not_had.new.text ≡ string_bytes c.args.text.now ++ t))
    (more_not_had c.args.begins.now (search rules)) c.add_lines_not_had.ensures
