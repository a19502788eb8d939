-- One hexadecimal digit more.
use Rattle.std.proofs.Common.{◌≡◌, ◌<◌, ◌+◌, ◌-◌, ◌*◌, ◌/◌, ◌%◌, ◌^◌, ℕ, zero, suc, List, [], ◌∷◌, ◌++◌, length}
use Rattle.std.proofs.Common.{false, refl, ap, sym, ◌∙◌, arith, append_assoc, length-append, sub-one}
use Rattle.std.proofs.Math.Nat.{mul-suc, pow-suc}
use Rattle.std.proofs.lemmas.Nat.{pow-add}
use Rattle.std.specs.Fmt.{digit_glyph}
use Rattle.ccan_script.specs.PrintedLine.{hex}

pub pow_sixteen : (place : ℕ) → 2 ^ (4 * place) ≡ 16 ^ place
pow_sixteen zero = refl
pow_sixteen (suc place) =
    ap (λ n. 2 ^ n) (mul-suc 4 place) ∙ pow-add 2 (4 * place) 4 ∙ ap (λ n. n * 16) (pow_sixteen place) ∙ sym (pow-suc 16 place)

hex_step : (place n : ℕ) → 0 < place → hex place n ≡ digit_glyph false (n / 2 ^ (4 * (place - 1)) % 16) ∷ hex (place - 1) n
unfolding hex
hex_step zero n h = absurd (omega arith)
hex_step (suc place) n h = rw (sub-one, pow_sixteen place) refl

-- what was there, and the next digit
pub hex_pushed : (old new all : List ℕ) (place n c : ℕ) → 0 < place → new ≡ old ++ c ∷ []
    → c ≡ digit_glyph false (n / 2 ^ (4 * (place - 1)) % 16)
    → old ++ hex place n ≡ all → new ++ hex (place - 1) n ≡ all
hex_pushed old new all place n c h is digit so_far =
    rw is (append_assoc old (c ∷ []) (hex (place - 1) n) ∙ ap (λ (d : ℕ). old ++ d ∷ hex (place - 1) n) digit
    ∙ ap (λ (t : List ℕ). old ++ t) (sym (hex_step place n h)) ∙ so_far)

pub length_pushed : (old new : List ℕ) (c : ℕ) → new ≡ old ++ c ∷ [] → length new ≡ length old + 1
length_pushed old new c is = ap length is ∙ simp length-append
