-- Numbers by the places of their bits, place 0 the lowest. Source: the bit numbers in the register pictures of the
-- C_CAN User's Manual 1.2, section 3 (Programmer's Model).
use Rattle.std.specs.Prelude.{ℕ, Bool, true, false, ◌==◌, ◌*◌, ◌/◌, ◌%◌, ◌^◌}
use Rattle.std.specs.Int.{bit_at}

-- whether the bit at a place is 1
abbrev pub bit : ℕ → ℕ → Bool
bit n place = bit_at n place == 1

-- the number in `width` places, from the place `lowest` on
abbrev pub part : ℕ → ℕ → ℕ → ℕ
part n lowest width = n / 2 ^ lowest % 2 ^ width

-- a flag as a number
abbrev pub flag : Bool → ℕ
flag true = 1
flag false = 0

-- a number with its lowest bit at a place
abbrev pub at : ℕ → ℕ → ℕ
at place n = n * 2 ^ place
