-- Data frames and remote frames, bit by bit. Source: CAN Specification 2.0, part B, "Data Frame", "Remote Frame" and
-- "Coding"; ISO 11898-1, data length code (9 to 15 mean eight bytes).
use Rattle.std.specs.Prelude.{ℕ, ◌+◌, ◌*◌, ◌/◌, ◌^◌, Bool, List, [], ◌∷◌, ◌++◌, replicate, take, if◌then◌else◌}
use Rattle.std.specs.List.{flat_map}
use Rattle.ccan_accept.specs.declared.frame.Frame.{Frame}
use Rattle.ccan_accept.specs.Frame.{data_count}
use Rattle.ccan_time.specs.Bits.{dominant, recessive, lowest_bits}
use Rattle.ccan_time.specs.Crc.{crc}
use Rattle.ccan_time.specs.Stuffing.{stuffed}

-- standard format: identifier, RTR
abbrev pub standard_arbitration : ℕ → Bool → List Bool
standard_arbitration id rtr = lowest_bits 11 id ++ rtr ∷ []

-- extended format: base identifier, SRR, IDE, identifier extension, RTR
abbrev pub extended_arbitration : ℕ → Bool → List Bool
extended_arbitration id rtr = lowest_bits 11 (id / 2 ^ 18) ++ recessive ∷ recessive ∷ (lowest_bits 18 id ++ rtr ∷ [])

unfoldable pub arbitration_field : Frame → List Bool
arbitration_field f = if f.xtd then extended_arbitration f.id f.rtr else standard_arbitration f.id f.rtr

-- two dominant bits, IDE and r0 in standard format, r1 and r0 in extended format, and the data length code
unfoldable pub control_field : Frame → List Bool
control_field f = dominant ∷ dominant ∷ lowest_bits 4 f.dlc

-- as many bytes as the code means, and none in a remote frame, each with its highest bit first
unfoldable pub data_field : Frame → List Bool
data_field f = flat_map (lowest_bits 8) (take (data_count f.rtr f.dlc) f.bytes)

-- what the CRC sequence is computed from: start of frame, arbitration field, control field, data field
unfoldable pub checked_bits : Frame → List Bool
checked_bits f = dominant ∷ (arbitration_field f ++ control_field f ++ data_field f)

abbrev pub crc_sequence : Frame → List Bool
crc_sequence f = crc (checked_bits f)

-- the bits of fixed form after the CRC sequence: CRC delimiter, ACK slot, ACK delimiter, end of frame. The ACK slot is that of a
-- frame that is acknowledged
abbrev pub end_bits : List Bool
end_bits = recessive ∷ dominant ∷ recessive ∷ replicate 7 recessive

-- the frame as it is on the bus, from the start of frame to the end of frame, without the intermission after it
unfoldable pub bits_on_bus : Frame → List Bool
bits_on_bus f = stuffed (checked_bits f ++ crc_sequence f) ++ end_bits
