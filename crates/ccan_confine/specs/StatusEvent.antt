-- What each event of the Status register means for its fields: C_CAN User's Manual 1.2, "Status Register". That a group
-- of recessive bits is no transfer and no error is this project's own.
use Rattle.std.specs.Prelude.{ℕ, ◌≤◌, Bool, true, false, Option, Some, None}
use Rattle.ccan_confine.specs.declared.status_event.StatusEvent.{StatusEvent}
use Rattle.ccan_confine.specs.declared.status_event.StatusEvent.TheVariants.{Sent, Received, Looped, Fault, Recovery, Level}

-- the codes are 1 stuff, 2 form, 3 acknowledgement, 4 bit 1, 5 bit 0, 6 CRC
abbrev pub HasFaultCode : StatusEvent → Type 0
HasFaultCode (Fault code) = (1 ≤ code) × (code ≤ 6)
HasFaultCode _ = Unit {0}

-- the last error code that an event sets: 0 for a frame without error, 5 for a group of recessive bits
abbrev pub code_of : StatusEvent → Option ℕ
code_of Sent = Some 0
code_of Received = Some 0
code_of Looped = Some 0
code_of (Fault code) = Some code
code_of Recovery = Some 5
code_of Level = None

abbrev pub is_sent : StatusEvent → Bool
is_sent Sent = true
is_sent Looped = true
is_sent _ = false

abbrev pub is_received : StatusEvent → Bool
is_received Received = true
is_received Looped = true
is_received _ = false

-- a message transfer ended, or a bus error
abbrev pub is_transfer_or_error : StatusEvent → Bool
is_transfer_or_error Sent = true
is_transfer_or_error Received = true
is_transfer_or_error Looped = true
is_transfer_or_error (Fault _) = true
is_transfer_or_error Recovery = false
is_transfer_or_error Level = false
