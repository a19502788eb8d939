-- How C writes the members of a bus, and what is on it. Source: this project's own, over the definitions of members and of what is
-- on a bus.
use Rattle.std.specs.Prelude.{ℕ, ◌≡◌, ◌<◌, ◌^◌, ◌==◌, ◌&&◌, Bool, true, false, map, Option, Some, None, nat_le, nat_lt, slice_index_or}
use Rattle.std.specs.Prelude.{if◌then◌else◌}
use Rattle.ccan_accept.specs.declared.frame.Frame.{Frame}
use Rattle.ccan_accept.specs.Frame.{framed, identifier_bits}
use Rattle.ccan_station.specs.Station.{frame_won}
use Rattle.ccan_wire.specs.declared.flaw.Flaw.{Flaw}
use Rattle.ccan_wire.specs.declared.flaw.Flaw.TheVariants.{Stuff, Form, Bit1, Bit0, Crc}
use Rattle.ccan_wire.specs.declared.member.Member.{Member}
use Rattle.ccan_wire.specs.declared.role.Role.{Role}
use Rattle.ccan_wire.specs.declared.role.Role.TheVariants.{Absent, Silent, Alone, Passive, Active, Looped}
use Rattle.ccan_wire.specs.declared.winner.Part.{Part}
use Rattle.ccan_wire.specs.declared.winner.Part.TheVariants.{Sender, Dropped, Listener}
use Rattle.ccan_wire.specs.declared.winner.Winner.{Winner}
use Rattle.ccan_wire.specs.declared.wire.Wire.{Wire}
use Rattle.ccan_wire.specs.declared.wire.Wire.TheVariants.{Idle, Collided, Broken, Flagged, Unheard, Carried}
use Rattle.ccan_wire.specs.Event.{part_on}
use Rattle.ccan_wire.specs.Wire.{start_of}
use Rattle.ccan_c.specs.declared.shown_frame.ShownFrame.{ShownFrame}
use Rattle.ccan_c.specs.declared.shown_member.ShownMember.{ShownMember}
use Rattle.ccan_c.specs.declared.shown_wire.ShownWire.{ShownWire}
use Rattle.ccan_c.specs.Bus.{is_on}
use Rattle.ccan_c.specs.Host.{number_of}
use Rattle.ccan_c.specs.Outcome.{c_frame, no_frame}

-- the most members that a bus has
abbrev pub most_members : ℕ
most_members = 32

-- ---- frames

-- a frame as C writes it; none is zero
abbrev pub c_frame_or_none : Option Frame → ShownFrame
c_frame_or_none None = no_frame
c_frame_or_none (Some frame) = c_frame frame

-- the identifier fits its kind, and the length has four bits
abbrev pub is_shown_frame : ShownFrame → Bool
is_shown_frame shown = nat_lt shown.id (2 ^ identifier_bits (is_on shown.xtd)) && nat_le shown.dlc 15

abbrev pub frame_in : ShownFrame → Frame
frame_in shown = framed shown.id (is_on shown.xtd) (is_on shown.rtr) shown.dlc shown.bytes

-- ---- members

abbrev pub role_number : Role → ℕ
role_number Absent = 0
role_number Silent = 1
role_number Alone = 2
role_number Passive = 3
role_number Active = 4
role_number Looped = 5

abbrev pub role_in : ℕ → Role
role_in number =
    if number == 1 then Silent
    else (if number == 2 then Alone
    else (if number == 3 then Passive
    else (if number == 4 then Active
    else (if number == 5 then Looped
    else Absent))))

-- the error that a member finds by itself, by the numbers that faults have
abbrev pub flaw_number : Option Flaw → ℕ
flaw_number None = 0
flaw_number (Some Stuff) = 1
flaw_number (Some Form) = 2
flaw_number (Some Bit1) = 3
flaw_number (Some Bit0) = 4
flaw_number (Some Crc) = 5

abbrev pub flaw_in : ℕ → Option Flaw
flaw_in number =
    if number == 1 then Some Stuff
    else (if number == 2 then Some Form
    else (if number == 3 then Some Bit1
    else (if number == 4 then Some Bit0
    else (if number == 5 then Some Crc
    else None))))

-- a number is one of an error, or 0 for none
abbrev pub is_flaw : ℕ → Bool
is_flaw number = nat_le number 5

abbrev pub is_switched : Option Frame → Bool
is_switched None = false
is_switched (Some frame) = true

abbrev pub c_member : Member → ShownMember
c_member m =
    record {
      role = role_number m.role;
      fault = flaw_number m.flaw;
      sends = number_of (is_switched m.frame);
      frame = c_frame_or_none m.frame;
    }

-- what a member starts to send
abbrev pub offered : ShownMember → Option Frame
offered shown = if is_on shown.sends then Some (frame_in shown.frame) else None

-- the frame is one, if it is to be sent
abbrev pub is_offer : ShownMember → Bool
is_offer shown = if is_on shown.sends then is_shown_frame shown.frame else true

-- its numbers are those of a member
abbrev pub is_member : ShownMember → Bool
is_member shown = nat_le shown.role 5 && (is_flaw shown.fault && is_offer shown)

abbrev pub member_in : ShownMember → Member
member_in shown = record { role = role_in shown.role; frame = offered shown; flaw = flaw_in shown.fault }

-- ---- what is on the bus

abbrev pub wire_kind : Wire → ℕ
wire_kind Idle = 0
wire_kind (Collided who) = 1
wire_kind (Broken winner) = 2
wire_kind (Flagged winner) = 3
wire_kind (Unheard winner flagged) = 4
wire_kind (Carried winner) = 5

-- an error flag of dominant bits comes after the ACK slot, in which there is no dominant bit
abbrev pub is_flagged : Wire → Bool
is_flagged (Unheard winner flagged) = flagged
is_flagged on = false

abbrev pub part_number : Part → ℕ
part_number Listener = 0
part_number Sender = 1
part_number Dropped = 2

-- what C sees of it: at the index of each place, what the member there is to the frame
pub record IsShownWire (on : Wire) (shown : ShownWire) : Type 0 where
  pub kind : shown.kind ≡ wire_kind on
  pub flagged : shown.flagged ≡ number_of (is_flagged on)
  pub frame : shown.frame ≡ c_frame_or_none (frame_won (start_of on))
  pub parts : (k : ℕ) → k < most_members → slice_index_or shown.part k 0 ≡ part_number (part_on on k)

abbrev pub is_sender : ℕ → Bool
is_sender number = number == 1

abbrev pub has_dropped : ℕ → Bool
has_dropped number = number == 2

abbrev pub winner_in : ShownWire → Winner
winner_in shown =
    record {
      frame = frame_in shown.frame;
      senders = map is_sender shown.part;
      dropped = map has_dropped shown.part;
    }

-- its kind is one, and its frame is one, if a single one won. Each number of a part, except that of a sender and of one that has
-- dropped out, is a listener's
abbrev pub is_wire : ShownWire → Bool
is_wire shown = nat_le shown.kind 5 && (if nat_le 2 shown.kind then is_shown_frame shown.frame else true)

-- of this kind
abbrev pub wire_of : ℕ → ShownWire → Wire
wire_of kind shown =
    if kind == 1 then Collided (map is_sender shown.part)
    else (if kind == 2 then Broken (winner_in shown)
    else (if kind == 3 then Flagged (winner_in shown)
    else (if kind == 4 then Unheard (winner_in shown) (is_on shown.flagged)
    else (if kind == 5 then Carried (winner_in shown)
    else Idle))))

abbrev pub wire_in : ShownWire → Wire
wire_in shown = wire_of shown.kind shown
