-- One hexadecimal digit more, in capitals.
use Rattle.std.proofs.Common.{◌≡◌, ◌<◌, ◌-◌, ◌*◌, ◌/◌, ◌%◌, ◌^◌, ℕ, zero, suc, List, ◌∷◌, ◌++◌, [], true}
use Rattle.std.proofs.Common.{refl, ap, sym, ◌∙◌, arith, append_assoc, sub-one}
use Rattle.std.specs.Fmt.{digit_glyph}
use Rattle.ccan_script.proofs.Digits.{pow_sixteen}
use Rattle.ccan_explain.specs.FrameText.{capital_hex}

hex_step : (place n : ℕ) → 0 < place
    → capital_hex place n ≡ digit_glyph true (n / 2 ^ (4 * (place - 1)) % 16) ∷ capital_hex (place - 1) n
unfolding capital_hex
hex_step zero n h = absurd (omega arith)
hex_step (suc place) n h = rw (sub-one, pow_sixteen place) refl

-- what was there, and the next digit
pub hex_pushed : (old new all : List ℕ) (place n c : ℕ) → 0 < place → new ≡ old ++ c ∷ []
    → c ≡ digit_glyph true (n / 2 ^ (4 * (place - 1)) % 16)
    → old ++ capital_hex place n ≡ all → new ++ capital_hex (place - 1) n ≡ all
hex_pushed old new all place n c h is digit so_far =
    rw is (append_assoc old (c ∷ []) (capital_hex (place - 1) n) ∙ ap (λ (d : ℕ). old ++ d ∷ capital_hex (place - 1) n) digit
    ∙ ap (λ (t : List ℕ). old ++ t) (sym (hex_step place n h)) ∙ so_far)
