-- The CRC sequence. Source: CAN Specification 2.0, part B, "Data Frame" (CRC field): the bits from the start of frame on, with
-- 15 bits 0 after them, are the coefficients of a polynomial, the highest first. It is divided (the coefficients are calculated
-- modulo 2) by the generator polynomial. The remainder of this division is the CRC sequence.
use Rattle.std.specs.Prelude.{ℕ, zero, suc, Bool, true, false, List, [], ◌∷◌, ◌++◌, length, replicate}
use Rattle.std.specs.Bool.{xor}

-- x^15 + x^14 + x^10 + x^8 + x^7 + x^4 + x^3 + 1, without the first term: the coefficients from x^14 down
abbrev pub generator : List Bool
generator =
    true ∷ false ∷ false ∷ false ∷ true ∷ false ∷ true ∷ true ∷ false ∷ false ∷ true ∷ true ∷ false ∷ false ∷ true ∷ []

-- the sum modulo 2 of a list and one that begins at the same place and is no longer
unfoldable pub plus : List Bool → List Bool → List Bool
plus [] addend = []
plus (b ∷ bits) [] = b ∷ bits
plus (b ∷ bits) (c ∷ addend) = xor b c ∷ plus bits addend

-- this many steps of long division: the highest coefficient falls away, and if it is 1 the generator is subtracted
unfoldable pub divided : ℕ → List Bool → List Bool
divided zero bits = bits
divided (suc n) [] = []
divided (suc n) (false ∷ bits) = divided n bits
divided (suc n) (true ∷ bits) = divided n (plus bits generator)

-- the remainder, of 15 bits
unfoldable pub crc : List Bool → List Bool
crc bits = divided (length bits) (bits ++ replicate 15 false)
