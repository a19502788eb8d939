-- Errors that a member finds by itself, their codes, and where in the frame each is found. Source: CAN Specification 2.0, "Error
-- Detection" and "Error Signalling" (the flag for a CRC error begins after the ACK delimiter, the others at the next bit); C_CAN
-- User's Manual 1.2, "Status Register" (LEC). That each is found at the place given here is (own): the usual case.
use Rattle.std.specs.Prelude.{ℕ, Bool, true, false, Option, Some, None}
use Rattle.ccan_wire.specs.declared.flaw.Flaw.{Flaw}
use Rattle.ccan_wire.specs.declared.flaw.Flaw.TheVariants.{Stuff, Form, Bit1, Bit0, Crc}

-- the last error code at the member that finds it
abbrev pub code_of : Flaw → ℕ
code_of Stuff = 1
code_of Form = 2
code_of Bit1 = 4
code_of Bit0 = 5
code_of Crc = 6

-- by one that sends the frame, or by a listener: found before the end of the check sequence. The one bit of its own that a
-- listener watches is its acknowledgement
abbrev pub is_in_the_stuffed_part : Bool → Flaw → Bool
is_in_the_stuffed_part sends Stuff = true
is_in_the_stuffed_part sends Form = false
is_in_the_stuffed_part sends Bit1 = sends
is_in_the_stuffed_part sends Bit0 = sends
is_in_the_stuffed_part sends Crc = false

-- found in the CRC delimiter, so that its flag begins in the ACK slot. No sender finds a CRC error: one that is given is taken as
-- an error there
abbrev pub is_before_the_ack_slot : Bool → Flaw → Bool
is_before_the_ack_slot sends Stuff = false
is_before_the_ack_slot sends Form = true
is_before_the_ack_slot sends Bit1 = false
is_before_the_ack_slot sends Bit0 = false
is_before_the_ack_slot sends Crc = sends

-- such an error is found, if any is
abbrev pub found_early : Bool → Option Flaw → Bool
found_early sends None = false
found_early sends (Some flaw) = is_in_the_stuffed_part sends flaw

abbrev pub found_at_delimiter : Bool → Option Flaw → Bool
found_at_delimiter sends None = false
found_at_delimiter sends (Some flaw) = is_before_the_ack_slot sends flaw
