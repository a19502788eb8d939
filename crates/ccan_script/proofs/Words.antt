-- A text of four hexadecimal digits is read as its number.
use Rattle.std.proofs.Common.{◌≡◌, ◌+◌, ◌*◌, ℕ, List, [], ◌∷◌, ◌&&◌, Bool, true, false}
use Rattle.std.proofs.Common.{length, get_or, refl, sym, arith, true≢false}
use Rattle.std.specs.Char.{digit_value}
use Rattle.std.specs.Str.Parse.{digits_value}

pub and_left : (a b : Bool) → (a && b) ≡ true → a ≡ true
and_left true b h = refl
and_left false b h = h

pub and_right : (a b : Bool) → (a && b) ≡ true → b ≡ true
and_right true b h = h
and_right false b h = absurd (true≢false (sym h))

abbrev pub pair_at : List ℕ → ℕ → ℕ
pair_at text place = digit_value (get_or text place 0) * 16 + digit_value (get_or text (place + 1) 0)

-- the first two digits are the high byte
pub four_value : (text : List ℕ) → length text ≡ 4 → pair_at text 0 * 256 + pair_at text 2 ≡ digits_value 16 text
four_value [] h = absurd (omega arith)
four_value (a ∷ []) h = absurd (omega arith)
four_value (a ∷ b ∷ []) h = absurd (omega arith)
four_value (a ∷ b ∷ c ∷ []) h = absurd (omega arith)
four_value (a ∷ b ∷ c ∷ d ∷ []) h = omega arith
four_value (a ∷ b ∷ c ∷ d ∷ e ∷ rest) h = absurd (omega arith)
