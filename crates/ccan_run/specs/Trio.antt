-- The three ports of a shared memory in one thread, and a port that catches up with the two others. Source: this
-- project's own.
use Rattle.std.specs.Prelude.{◌≡◌, List}
use Rattle.ccan_ram.specs.declared.port.PortName.{PortName}
use Rattle.ccan_ram.specs.declared.port.PortName.TheVariants.{If1, If2, Bus}
use Rattle.ccan_ram.specs.declared.event.Event.{Event}
use Rattle.ccan_ram.specs.History.{BeginsWith, events_of}
use Rattle.ccan_ram.specs.SharedRam.{Pass, CanSee, IsSamePort}

-- what each of three ports has seen
abbrev pub seen_by : Pass → Pass → Pass → PortName → List Event
seen_by if1 if2 bus If1 = if1.seen
seen_by if1 if2 bus If2 = if2.seen
seen_by if1 if2 bus Bus = bus.seen

-- the same port, which made no event meanwhile
pub record IsQuiet (old new : Pass) : Type 0 where
  pub same : IsSamePort old new
  pub own : events_of old.port new.seen ≡ events_of old.port old.seen

-- the port has then seen at least what any of the three had, and none of them made an event
pub record CatchesUp (port second third new_port new_second new_third : Pass) : Type 0 where
  pub sees : CanSee new_port
  pub begins : BeginsWith new_port.seen port.seen
  pub begins_second : BeginsWith new_port.seen second.seen
  pub begins_third : BeginsWith new_port.seen third.seen
  pub quiet : IsQuiet port new_port
  pub quiet_second : IsQuiet second new_second
  pub quiet_third : IsQuiet third new_third
