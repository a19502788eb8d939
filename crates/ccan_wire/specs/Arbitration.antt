-- The bits of a frame, as far as they may differ. Source: CAN Specification 2.0, part B, sections 2 (arbitration) and 3.1.1
-- (arbitration field, control field, data field). The check sequence is the same if these are.
use Rattle.std.specs.Prelude.{ℕ, zero, suc, ◌+◌, ◌*◌, ◌/◌, ◌^◌, Bool, true, false, List, [], ◌∷◌, ◌++◌, if◌then◌else◌}
use Rattle.std.specs.Int.{from_be_bytes, w64}
use Rattle.ccan_object.specs.Bits.{bit}
use Rattle.ccan_accept.specs.declared.frame.Frame.{Frame}

-- a bit on the bus: 0 is dominant, 1 recessive
abbrev pub dominant : Bool
dominant = false

abbrev pub recessive : Bool
recessive = true

-- this many bits of a number, from the lowest one on, the highest first
unfoldable pub lowest_bits : ℕ → ℕ → List Bool
lowest_bits zero number = []
lowest_bits (suc n) number = bit number n ∷ lowest_bits n number

-- identifier, RTR, IDE
abbrev pub standard_bits : Frame → List Bool
standard_bits f = lowest_bits 11 f.id ++ f.rtr ∷ dominant ∷ []

-- the upper part of the identifier, SRR, IDE, the lower part, RTR
abbrev pub extended_bits : Frame → List Bool
extended_bits f = lowest_bits 11 (f.id / 2 ^ 18) ++ recessive ∷ recessive ∷ (lowest_bits 18 f.id ++ f.rtr ∷ [])

-- the bits of the arbitration field with IDE, in the order in which they are sent
unfoldable pub arbitration_bits : Frame → List Bool
arbitration_bits f = if f.xtd then extended_bits f else standard_bits f

-- dictionary order, the dominant bit first: where two lists first differ, the one with the dominant bit precedes
abbrev pub precedes : List Bool → List Bool → Bool
precedes ours [] = false
precedes [] (b ∷ theirs) = true
precedes (false ∷ ours) (true ∷ theirs) = true
precedes (true ∷ ours) (false ∷ theirs) = false
precedes (false ∷ ours) (false ∷ theirs) = precedes ours theirs
precedes (true ∷ ours) (true ∷ theirs) = precedes ours theirs

-- this frame goes on if the two are sent at once
abbrev pub beats : Frame → Frame → Bool
beats one other = precedes (arbitration_bits one) (arbitration_bits other)

-- what comes after the bits of arbitration, as one number, the first bit the highest: the data length code, and then the data.
-- Where two frames with the same bits of arbitration first differ, the one of the lesser number has the dominant bit
unfoldable pub rest_of : Frame → ℕ
rest_of f = f.dlc * 2 ^ 64 + from_be_bytes w64 f.bytes
