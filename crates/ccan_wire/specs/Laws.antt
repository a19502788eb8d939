-- Laws of what is on a bus, of any members. Source: CAN Specification 2.0, part B, section 2 (arbitration), 3.1.1 (ACK field),
-- "Error Detection", "Fault Confinement" (rule 3 with its first exception); C_CAN User's Manual 1.2, "Silent Mode", "Loop Back
-- Mode" (the input is disregarded, and the messages are at the output).
use Rattle.std.specs.Prelude.{ℕ, ◌≡◌, ◌≢◌, ◌⊎◌, Bool, true, false, List, Option, Some, None}
use Rattle.ccan_accept.specs.declared.frame.Frame.{Frame}
use Rattle.ccan_confine.specs.declared.bus_event.BusEvent.{BusEvent}
use Rattle.ccan_confine.specs.declared.bus_event.BusEvent.TheVariants as event
use Rattle.ccan_confine.specs.declared.status_event.StatusEvent.{StatusEvent}
use Rattle.ccan_confine.specs.declared.status_event.StatusEvent.TheVariants as status
use Rattle.ccan_confine.specs.Counters.{Levels, is_off, levels_after}
use Rattle.ccan_wire.specs.declared.member.Member.{Member}
use Rattle.ccan_wire.specs.declared.start.Start.{Start}
use Rattle.ccan_wire.specs.declared.start.Start.TheVariants.{Collision, Won}
use Rattle.ccan_wire.specs.declared.wire.Wire.{Wire}
use Rattle.ccan_wire.specs.declared.winner.Part.TheVariants.{Sender, Listener}
use Rattle.ccan_wire.specs.declared.winner.Winner.{Winner}
use Rattle.ccan_wire.specs.Event.{event_of, part_on}
use Rattle.ccan_wire.specs.Member.{sent_by}
use Rattle.ccan_wire.specs.Role.{drives, hears, is_active}
use Rattle.ccan_wire.specs.Winner.{part_of}
use Rattle.ccan_wire.specs.Start.{Starts}
use Rattle.ccan_wire.specs.Wire.{Carries, Continues, Ends, start_of}

abbrev pub has_sent : Option (BusEvent × StatusEvent)
has_sent = Some (event.Sent, status.Sent)

abbrev pub has_received : Option (BusEvent × StatusEvent)
has_received = Some (event.Received, status.Received)

-- the two are the same to each of these members: its part, and what becomes of it
pub record IsSameTo (m : ℕ → Member) (wire other : Wire) : Type 0 where
  pub parts : (k : ℕ) → part_on wire k ≡ part_on other k
  pub events : (k : ℕ) → event_of wire k (m k) ≡ event_of other k (m k)

-- the members settle what is on the bus
abbrev pub EachRoundHasOneWire : Type 0
EachRoundHasOneWire = (m : ℕ → Member) (wire other : Wire) → Carries m wire → Carries m other → IsSameTo m wire other

-- if nothing happened to the members since the start, what was decided then is decided again
abbrev pub DecidedAgainAsAtFirst : Type 0
DecidedAgainAsAtFirst =
    (m : ℕ → Member) (wire later : Wire) → Carries m wire → Continues wire m later → IsSameTo m wire later

-- a member that takes part, sends nothing, and has received the frame
pub record Hears (m : ℕ → Member) (wire : Wire) (j : ℕ) : Type 0 where
  pub drives : drives (m j).role ≡ true
  pub hears : hears (m j).role ≡ true
  pub listens : part_on wire j ≡ Listener
  pub received : event_of wire j (m j) ≡ has_received

-- a member that has sent was heard by one that takes part and sent nothing, and that one has received
abbrev pub SentIsHeard : Type 0
SentIsHeard =
    (m : ℕ → Member) (wire : Wire) (k : ℕ) → Ends m wire → event_of wire k (m k) ≡ has_sent → (j : ℕ) × Hears m wire j

-- all who have sent in one round have sent the same frame
abbrev pub AtMostOneFrameIsSent : Type 0
AtMostOneFrameIsSent =
    (m : ℕ → Member) (wire : Wire) (j k : ℕ) → Carries m wire → event_of wire j (m j) ≡ has_sent
    → event_of wire k (m k) ≡ has_sent
    → (frame : Frame) × (sent_by (m j) ≡ Some frame) × (sent_by (m k) ≡ Some frame)

-- the same members, except those who drive nothing: absent, silent or alone
pub record DriveTheSame (m other : ℕ → Member) : Type 0 where
  pub drive : (k : ℕ) → drives (m k).role ≡ true → other k ≡ m k
  pub rest : (k : ℕ) → drives (m k).role ≡ false → drives (other k).role ≡ false

-- a member that drives nothing changes nothing on the bus
abbrev pub ListenersChangeNothing : Type 0
ListenersChangeNothing = (m other : ℕ → Member) (wire : Wire) → DriveTheSame m other → Carries m wire → Carries other wire

-- a member that sends and hears the bus, and finds no error by itself, while no other drives the bus
pub record IsLoneSender (m : ℕ → Member) (k : ℕ) : Type 0 where
  pub frame : Frame
  pub sends : sent_by (m k) ≡ Some frame
  pub hears : hears (m k).role ≡ true
  pub flawless : (m k).flaw ≡ None
  pub others : (j : ℕ) → j ≢ k → drives (m j).role ≡ false

-- nobody acknowledges its frame, however many listen
abbrev pub NobodyHearsALoneSender : Type 0
NobodyHearsALoneSender =
    (m : ℕ → Member) (wire : Wire) (k : ℕ) → Carries m wire → IsLoneSender m k
    → event_of wire k (m k) ≡ Some (event.SendNoAck, status.Fault 3)

-- and that makes no node go off
abbrev pub UnheardSendersStayOn : Type 0
UnheardSendersStayOn = (levels : Levels) → is_off levels ≡ false → is_off (levels_after event.SendNoAck levels) ≡ false

-- a member that still sends what it sent, hears the bus if it did, and is error active only if it was
pub record IsAsBefore (m other : Member) (frame : Frame) : Type 0 where
  pub sent : sent_by m ≡ Some frame
  pub hears : hears m.role ≡ true → hears other.role ≡ true
  pub passive : is_active m.role ≡ false → is_active other.role ≡ false

-- since the start of a frame that this member sends, others may have left, or found errors: each is as before, or no longer
-- sends
pub record SomeLeave (m other : ℕ → Member) (sender : ℕ) : Type 0 where
  pub stays : sent_by (other sender) ≡ sent_by (m sender)
  pub leave : (k : ℕ) (frame : Frame) → sent_by (other k) ≡ Some frame → IsAsBefore (m k) (other k) frame

-- the frame that won at the start is the one that wins when the members who are left are asked again
abbrev pub WinnersAreSettledAtTheStart : Type 0
WinnersAreSettledAtTheStart =
    (m other : ℕ → Member) (wire later : Wire) (winner : Winner) (sender : ℕ)
    → Carries m wire → start_of wire ≡ Won winner → part_of winner sender ≡ Sender
    → SomeLeave m other sender → Carries other later
    → (left : Winner) × (start_of later ≡ Won left) × (left.frame ≡ winner.frame)

-- to one in loop back mode neither what is on the bus nor its place there matters: its event is the same
abbrev pub LoopBackDisregardsTheBus : Type 0
LoopBackDisregardsTheBus =
    (wire other : Wire) (j k : ℕ) (m : Member) → hears m.role ≡ false → event_of wire j m ≡ event_of other k m

-- one member sends a frame, in loop back mode or not, no other does, and nobody finds an error by itself
pub record IsLoneFrame (m : ℕ → Member) (k : ℕ) : Type 0 where
  pub frame : Frame
  pub sends : sent_by (m k) ≡ Some frame
  pub others : (j : ℕ) → j ≢ k → sent_by (m j) ≡ None
  pub flawless : (j : ℕ) → (m j).flaw ≡ None

-- each other that takes part and hears the bus has received it
abbrev pub LoneFramesAreReceived : Type 0
LoneFramesAreReceived =
    (m : ℕ → Member) (wire : Wire) (j k : ℕ) → Carries m wire → IsLoneFrame m k → j ≢ k → drives (m j).role ≡ true
    → hears (m j).role ≡ true → event_of wire j (m j) ≡ has_received

-- a frame of a member in loop back mode
pub record IsLoopBackFrame (m : ℕ → Member) (k : ℕ) (frame : Frame) : Type 0 where
  pub sends : sent_by (m k) ≡ Some frame
  pub deaf : hears (m k).role ≡ false

-- it is the frame that goes on, and its member is one of its senders
pub record IsSentBy (start : Start) (k : ℕ) (frame : Frame) : Type 0 where
  pub winner : Winner
  pub won : start ≡ Won winner
  pub is : winner.frame ≡ frame
  pub part : part_of winner k ≡ Sender

-- it goes on, or frames collide
abbrev pub LoopBackFramesGoOnOrSpoil : Type 0
LoopBackFramesGoOnOrSpoil =
    (m : ℕ → Member) (start : Start) (k : ℕ) (frame : Frame) → Starts m start → IsLoopBackFrame m k frame
    → IsSentBy start k frame ⊎ ((who : List Bool) × (start ≡ Collision who))
