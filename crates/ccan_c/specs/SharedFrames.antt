-- Several chips that share the frames of one bus, by what C passes from call to call. Source: CAN Specification 2.0, part B, 3.1.1
-- (ACK field) and section 2 (arbitration), over what is on a bus; this project's own as a whole.
use Rattle.std.specs.Prelude.{ℕ, ◌≡◌, ◌<◌, ◌≤◌, true, List, Some, length, map}
use Rattle.ccan_accept.specs.declared.frame.Frame.{Frame}
use Rattle.ccan_ram.specs.Terms.{Terms}
use Rattle.ccan_endless.specs.Chip.{ChipHistory}
use Rattle.ccan_station.specs.Station.{ending, still_under_way}
use Rattle.ccan_wire.specs.declared.member.Member.{Member}
use Rattle.ccan_wire.specs.Event.{event_of}
use Rattle.ccan_wire.specs.Laws.{has_received, has_sent}
use Rattle.ccan_wire.specs.Member.{member_at, sent_by}
use Rattle.ccan_wire.specs.Role.{drives}
use Rattle.ccan_c.specs.declared.shown_finished.ShownFinished.{ShownFinished}
use Rattle.ccan_c.specs.declared.shown_member.ShownMember.{ShownMember}
use Rattle.ccan_c.specs.declared.shown_wire.ShownWire.{ShownWire}
use Rattle.ccan_c.specs.Codes.{done}
use Rattle.ccan_c.specs.Deciding.{IsDecided, IsDecidedAgain}
use Rattle.ccan_c.specs.FrameCall.{BusState, FrameEnds}
use Rattle.ccan_c.specs.Wire.{flaw_in, member_in, most_members, wire_in}

-- the members that C passes, by their positions
abbrev pub members_of : List ShownMember → ℕ → Member
members_of shown = member_at (map member_in shown)

-- what C was given for these members at the start of a frame, and what it was given at its end
pub record IsFrame (starts ends : List ShownMember) (start end : ShownWire) : Type 0 where
  pub few : length starts ≤ most_members
  pub few_left : length ends ≤ most_members
  pub decided : IsDecided starts done start
  pub ended : IsDecidedAgain start ends done end

-- the end of that frame at some chip, by a finish at the position of its member, which is still as it was reported to C
pub record IsPartOf (ends : List ShownMember) (end : ShownWire) (place : ℕ) : Type 0 where
  pub within : place < most_members
  pub terms : Terms
  pub tries : ℕ
  pub fault : ℕ
  pub old : BusState
  pub new : BusState
  pub seen : ChipHistory
  pub added : ChipHistory
  pub result : ℕ
  pub out : ShownFinished
  pub ends_so : FrameEnds terms tries end place fault old seen added new result out
  pub is_member : ending (still_under_way ends_so.told.found old.station.under_way) (flaw_in fault) ≡ members_of ends place

-- a member that took part in the frame and received it
pub record HasReceived (ends : List ShownMember) (end : ShownWire) (place : ℕ) : Type 0 where
  pub within : place < most_members
  pub takes_part : drives (members_of ends place).role ≡ true
  pub received : event_of (wire_in end) place (members_of ends place) ≡ has_received

-- a frame that some chip has sent was received by another member of the bus
abbrev pub SentFramesAreReceived : Type 0
SentFramesAreReceived =
    (starts ends : List ShownMember) (start end : ShownWire) (place : ℕ) → IsFrame starts ends start end
    → (part : IsPartOf ends end place) → part.ends_so.told.own ≡ has_sent
    → (other : ℕ) × HasReceived ends end other

-- chips that have both sent have sent the same frame
abbrev pub SendersSendTheSame : Type 0
SendersSendTheSame =
    (starts ends : List ShownMember) (start end : ShownWire) (first second : ℕ) → IsFrame starts ends start end
    → (one : IsPartOf ends end first) (two : IsPartOf ends end second)
    → one.ends_so.told.own ≡ has_sent → two.ends_so.told.own ≡ has_sent
    → (frame : Frame) × (sent_by (members_of starts first) ≡ Some frame) × (sent_by (members_of starts second) ≡ Some frame)
