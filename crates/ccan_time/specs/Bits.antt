-- Bits on the bus. Source: CAN Specification 2.0, part B, "Bus values" and "Data Frame" (the most significant bit of
-- a field is sent first).
use Rattle.std.specs.Prelude.{ℕ, zero, suc, Bool, true, false, List, [], ◌∷◌}
use Rattle.ccan_object.specs.Bits.{bit}

-- a bit on the bus: 0 is dominant, 1 recessive
abbrev pub dominant : Bool
dominant = false

abbrev pub recessive : Bool
recessive = true

-- this many bits of a number, from the lowest one on, the highest first
unfoldable pub lowest_bits : ℕ → ℕ → List Bool
lowest_bits zero number = []
lowest_bits (suc n) number = bit number n ∷ lowest_bits n number
