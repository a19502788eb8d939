-- What is on the bus, to each member: an event of its error counters, and one of its Status register with the last error code
-- that the member itself can see. Source: CAN Specification 2.0, "Error Detection", "Error Signalling", "Fault Confinement"
-- (rules 1, 3, 7 and 8); C_CAN User's Manual 1.2, "Status Register" (LEC), "Silent Mode", "Loop Back Mode". That what a member
-- sees after its own error flag counts nothing more (rules 2, 4, 5 and 6), that the second exception of rule 3 does not occur,
-- that a silent member counts as others do, and that frames which spoil each other, since one is of a member in loop back mode,
-- are a bit error to those who hear and send them and a stuff error to all others who hear, are (own).
use Rattle.std.specs.Prelude.{ℕ, Bool, ◌&&◌, not, [], Option, Some, None, if◌then◌else◌}
use Rattle.ccan_accept.specs.declared.frame.Frame.{Frame}
use Rattle.ccan_confine.specs.declared.bus_event.BusEvent.{BusEvent}
use Rattle.ccan_confine.specs.declared.bus_event.BusEvent.TheVariants as event
use Rattle.ccan_confine.specs.declared.status_event.StatusEvent.{StatusEvent}
use Rattle.ccan_confine.specs.declared.status_event.StatusEvent.TheVariants as status
use Rattle.ccan_wire.specs.declared.flaw.Flaw.{Flaw}
use Rattle.ccan_wire.specs.declared.member.Member.{Member}
use Rattle.ccan_wire.specs.declared.role.Role.{Role}
use Rattle.ccan_wire.specs.declared.role.Role.TheVariants.{Absent, Silent, Alone, Passive, Active, Looped}
use Rattle.ccan_wire.specs.declared.wire.Wire.{Wire}
use Rattle.ccan_wire.specs.declared.wire.Wire.TheVariants.{Idle, Collided, Broken, Flagged, Unheard, Carried}
use Rattle.ccan_wire.specs.declared.winner.Part.{Part}
use Rattle.ccan_wire.specs.declared.winner.Part.TheVariants.{Sender, Dropped, Listener}
use Rattle.ccan_wire.specs.Flaw.{code_of}
use Rattle.ccan_wire.specs.Role.{is_active}
use Rattle.ccan_wire.specs.Winner.{part_in, part_of}

-- what a member is to the frame that is on the bus
abbrev pub part_on : Wire → ℕ → Part
part_on Idle k = Listener
part_on (Collided who) k = part_in who [] k
part_on (Broken winner) k = part_of winner k
part_on (Flagged winner) k = part_of winner k
part_on (Unheard winner flagged) k = part_of winner k
part_on (Carried winner) k = part_of winner k

-- the code of the error that a member finds by itself, else that of what it sees of another member's
abbrev pub own_or : Option Flaw → ℕ → ℕ
own_or None seen = seen
own_or (Some flaw) seen = code_of flaw

abbrev pub send_fault : ℕ → Option (BusEvent × StatusEvent)
send_fault code = Some (event.SendFault, status.Fault code)

abbrev pub receive_fault : ℕ → Option (BusEvent × StatusEvent)
receive_fault code = Some (event.ReceiveFault, status.Fault code)

-- a frame that ends well for others, to one of its senders: one that is error passive may find an error that only it sees
abbrev pub sent_well : Option Flaw → Option (BusEvent × StatusEvent)
sent_well None = Some (event.Sent, status.Sent)
sent_well (Some flaw) = send_fault (code_of flaw)

-- and to a listener
abbrev pub received_well : Option Flaw → Option (BusEvent × StatusEvent)
received_well None = Some (event.Received, status.Received)
received_well (Some flaw) = receive_fault (code_of flaw)

-- an acknowledge error leaves the transmit error counter of a sender that is error passive and sees no dominant bit while it
-- sends its error flag (rule 3, first exception)
abbrev pub unacknowledged : Bool → Role → BusEvent
unacknowledged flagged role = if flagged && not (is_active role) then event.SendFault else event.SendNoAck

abbrev pub sent_unheard : Bool → Role → Option Flaw → Option (BusEvent × StatusEvent)
sent_unheard flagged role None = Some (unacknowledged flagged role, status.Fault 3)
sent_unheard flagged role (Some flaw) = send_fault (code_of flaw)

-- to a listener: a flag after the ACK slot breaks the form; with none the frame is whole
abbrev pub received_unheard : Bool → Option Flaw → Option (BusEvent × StatusEvent)
received_unheard flagged flaw = if flagged then receive_fault (own_or flaw 2) else received_well flaw

-- to a member that sends: a flag in the stuffed part makes a recessive bit of its own dominant (4), and one at the end breaks the
-- form (2). That the first begins after the arbitration field, and that the second is a form error, not a bit error, is (own)
abbrev pub sender_event : Wire → Role → Option Flaw → Option (BusEvent × StatusEvent)
sender_event Idle role flaw = None
sender_event (Collided who) role flaw = send_fault 4
sender_event (Broken winner) role flaw = send_fault (own_or flaw 4)
sender_event (Flagged winner) role flaw = send_fault (own_or flaw 2)
sender_event (Unheard winner flagged) role flaw = sent_unheard flagged role flaw
sender_event (Carried winner) role flaw = sent_well flaw

-- to one that hears it: six equal bits in the stuffed part break the stuff rule (1), a flag at the end breaks the form (2)
abbrev pub listener_event : Wire → Option Flaw → Option (BusEvent × StatusEvent)
listener_event Idle flaw = None
listener_event (Collided who) flaw = receive_fault 1
listener_event (Broken winner) flaw = receive_fault (own_or flaw 1)
listener_event (Flagged winner) flaw = receive_fault (own_or flaw 2)
listener_event (Unheard winner flagged) flaw = received_unheard flagged flaw
listener_event (Carried winner) flaw = received_well flaw

-- to one that takes part; one that dropped out has seen a bit error (4)
abbrev pub event_in : Part → Wire → Member → Option (BusEvent × StatusEvent)
event_in Sender wire m = sender_event wire m.role m.flaw
event_in Dropped wire m = send_fault 4
event_in Listener wire m = listener_event wire m.flaw

-- to one in loop back mode: its own frame, if it has one, acknowledged or not, and whatever else is on the bus
abbrev pub event_alone : Option Frame → Option (BusEvent × StatusEvent)
event_alone None = None
event_alone (Some frame) = Some (event.Sent, status.Looped)

abbrev pub event_as : Role → Wire → ℕ → Member → Option (BusEvent × StatusEvent)
event_as Absent wire k m = None
event_as Silent wire k m = listener_event wire m.flaw
event_as Alone wire k m = event_alone m.frame
event_as Passive wire k m = event_in (part_on wire k) wire m
event_as Active wire k m = event_in (part_on wire k) wire m
event_as Looped wire k m = event_alone m.frame

-- what is on the bus, to the member at this place
abbrev pub event_of : Wire → ℕ → Member → Option (BusEvent × StatusEvent)
event_of wire k m = event_as m.role wire k m
