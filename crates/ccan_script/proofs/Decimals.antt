-- Numbers in decimal, digit by digit.
use Rattle.std.proofs.Common.{◌≡◌, ◌<◌, ◌≤◌, ◌+◌, ◌/◌, ◌%◌, ◌^◌, ℕ, List, [], ◌∷◌, ◌++◌, length, decimal}
use Rattle.std.proofs.Common.{false, ap, sym, ◌∙◌, arith, append_assoc, length-append}
use Rattle.std.proofs.lemmas.Bool.Decides.{nat_tests}
use Rattle.std.proofs.lemmas.Fmt.{decimal_digit, decimal_step, length-decimal-le}
use Rattle.std.specs.Fmt.{digit_glyph}

glyph : (d : ℕ) → d < 10 → 48 + d ≡ digit_glyph false d
glyph d h = grind (arith, nat_tests)

pub decimal_one : (n : ℕ) → n < 10 → decimal n ≡ digit_glyph false n ∷ []
decimal_one n h = decimal_digit n h ∙ ap (λ c. c ∷ []) (glyph n h)

pub decimal_more : (n : ℕ) → 10 ≤ n → n < 2 ^ 16 → decimal n ≡ decimal (n / 10) ++ digit_glyph false (n % 10) ∷ []
decimal_more n h small = decimal_step n h (omega arith) ∙ ap (λ c. decimal (n / 10) ++ c ∷ []) (glyph (n % 10) (omega arith))

pub length_one : (n : ℕ) → n < 10 → length (decimal n) ≡ 1
length_one n h = ap length (decimal_one n h)

-- what was there, the number without its last digit, and that digit
pub decimal_pushed : (old between new : List ℕ) (n : ℕ) → 10 ≤ n → n < 2 ^ 16 → between ≡ old ++ decimal (n / 10)
    → new ≡ between ++ digit_glyph false (n % 10) ∷ [] → new ≡ old ++ decimal n
decimal_pushed old between new n h small so_far pushed =
    pushed ∙ ap (λ t. t ++ digit_glyph false (n % 10) ∷ []) so_far
    ∙ append_assoc old (decimal (n / 10)) (digit_glyph false (n % 10) ∷ [])
    ∙ ap (λ t. old ++ t) (sym (decimal_more n h small))

pub length_more : (n : ℕ) → 10 ≤ n → n < 2 ^ 16 → length (decimal n) ≡ length (decimal (n / 10)) + 1
length_more n h small = ap length (decimal_more n h small) ∙ simp length-append

-- a number of one digit, and how long one is with a digit more
pub ruleset digit_by_digit = (decimal_one, length_one, length_more)

pub decimal_short : (n : ℕ) → n < 2 ^ 16 → length (decimal n) ≤ 5
decimal_short n h = length-decimal-le 5 n (omega arith) (omega arith) (omega arith)
