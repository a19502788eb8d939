-- One decimal digit more.
use Rattle.std.proofs.Common.{◌≡◌, ◌<◌, ◌≤◌, ◌+◌, ◌/◌, ◌%◌, ◌^◌, ℕ, List, [], ◌∷◌, ◌++◌, decimal}
use Rattle.std.proofs.Common.{false, ap, sym, ◌∙◌, arith, append_assoc}
use Rattle.std.proofs.lemmas.Bool.Decides.{nat_tests}
use Rattle.std.proofs.lemmas.Fmt.{decimal_digit, decimal_step}
use Rattle.std.specs.Fmt.{digit_glyph}

glyph : (d : ℕ) → d < 10 → 48 + d ≡ digit_glyph false d
glyph d h = grind (arith, nat_tests)

-- what was there, and a number of one digit
pub digit_pushed : (old new : List ℕ) (n : ℕ) → n < 10 → new ≡ old ++ digit_glyph false n ∷ [] → new ≡ old ++ decimal n
digit_pushed old new n h pushed =
    pushed ∙ ap (λ (t : List ℕ). old ++ t) (sym (decimal_digit n h ∙ ap (λ (c : ℕ). c ∷ []) (glyph n h)))

-- what was there, the number without its last digit, and that digit
pub decimal_pushed : (old between new : List ℕ) (n : ℕ) → 10 ≤ n → n < 2 ^ 64 → between ≡ old ++ decimal (n / 10)
    → new ≡ between ++ digit_glyph false (n % 10) ∷ [] → new ≡ old ++ decimal n
decimal_pushed old between new n h small so_far pushed =
    let more = decimal_step n h small ∙ ap (λ (c : ℕ). decimal (n / 10) ++ c ∷ []) (glyph (n % 10) (omega arith)) in
    pushed ∙ ap (λ (t : List ℕ). t ++ digit_glyph false (n % 10) ∷ []) so_far
    ∙ append_assoc old (decimal (n / 10)) (digit_glyph false (n % 10) ∷ []) ∙ ap (λ (t : List ℕ). old ++ t) (sym more)
