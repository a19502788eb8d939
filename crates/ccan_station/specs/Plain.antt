-- A node without a chip: its error counters are all that it has. Source: CAN Specification 2.0, "Fault Confinement".
use Rattle.std.specs.Prelude.{ℕ, Option, Some, None}
use Rattle.ccan_accept.specs.declared.frame.Frame.{Frame}
use Rattle.ccan_confine.specs.declared.bus_event.BusEvent.{BusEvent}
use Rattle.ccan_confine.specs.declared.status_event.StatusEvent.{StatusEvent}
use Rattle.ccan_confine.specs.Counters.{counts_after, state_of}
use Rattle.ccan_wire.specs.declared.flaw.Flaw.{Flaw}
use Rattle.ccan_wire.specs.declared.member.Member.{Member}
use Rattle.ccan_wire.specs.declared.wire.Wire.{Wire}
use Rattle.ccan_wire.specs.Event.{event_of}
use Rattle.ccan_wire.specs.Role.{role_of_state}
use Rattle.ccan_station.specs.declared.plain.Plain.{Plain}

-- what it is to the bus, if it offers this frame and finds this error by itself
abbrev pub plain_member : Plain → Option Frame → Option Flaw → Member
plain_member plain frame flaw =
    record { role = role_of_state (state_of plain.counters.levels); frame = frame; flaw = flaw }

-- an event changes its error counters
abbrev pub counted_by : Option (BusEvent × StatusEvent) → Plain → Plain
counted_by None plain = plain
counted_by (Some own) plain = record { counters = counts_after own.0 plain.counters }

-- what is on the bus, for the node that is this member
abbrev pub plain_after : Plain → Wire → ℕ → Member → Plain
plain_after plain on place member = counted_by (event_of on place member) plain
