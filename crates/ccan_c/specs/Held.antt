-- What an open handle stands for. Source: this project's own.
use Rattle.std.specs.Prelude.{ℕ, ◌≡◌, Option, Some}
use Rattle.ccan_ram.specs.SharedRam.{Pass}
use Rattle.ccan_endless.specs.ChipPort.{ChipPass}
use Rattle.ccan_bus.specs.Bus.{LedTo}
use Rattle.ccan_bus.specs.Past as past
use Rattle.ccan_chip.specs.declared.map.Map.{Map}
use Rattle.ccan_registers.specs.declared.interface_set.InterfaceSet.{InterfaceSet}
use Rattle.ccan_registers.specs.ChipSteps.{SeesChip}
use Rattle.ccan_registers.specs.Frames.{StationState, at_rest, state_of}
use Rattle.ccan_c.specs.declared.held.Held.{Held}
use Rattle.ccan_c.specs.Opening.{Set}

-- its port, with all that it has seen of the chip
abbrev pub port_of : Held → ChipPass
port_of held = held.chip.port

-- what its port has seen of the message RAM
abbrev pub pass_of : Held → Pass
pass_of held = (port_of held).pass

-- how often its calls may try a change
abbrev pub tries_of : Held → ℕ
tries_of held = held.chip.settings.tries

-- how the registers lie for its calls by offsets
abbrev pub map_of : Held → Map
map_of held = held.chip.settings.map

-- its part in the frames of a bus of several
abbrev pub station_of : Held → StationState
station_of held = state_of held.station

-- a handle that stands for this port, with these settings and registers; nothing happened to its bus, which chooses what it
-- sends at one moment, and it has no part in a frame
pub record IsHolding (port : ChipPass) (nodes tries : ℕ) (map : Map) (own : InterfaceSet) (held : Held) : Type 0 where
  pub port_is : port_of held ≡ port
  pub sees : SeesChip (port_of held)
  pub tries_are : tries_of held ≡ tries
  pub nodes_are : held.nodes ≡ nodes
  pub map_is : map_of held ≡ map
  pub own_is : held.own ≡ own
  pub bus_is : LedTo (past.opened_at_once nodes) held.bus.bus
  pub station_is : station_of held ≡ at_rest

-- a handle as it opens, with what a chip is opened with
abbrev pub IsOpening : ChipPass → Set → Held → Type 0
IsOpening port set held = IsHolding port set.nodes set.tries set.map set.opening.own held

-- the handle works as it did: with as many tries, other nodes, and the same layout
pub record WorksAsBefore (old new : Held) : Type 0 where
  pub tries : tries_of new ≡ tries_of old
  pub nodes : new.nodes ≡ old.nodes
  pub map : map_of new ≡ map_of old

-- all else that the handle stands for is as it was
pub record IsKept (old new : Held) : Type 0 where
  pub works : WorksAsBefore old new
  pub own : new.own ≡ old.own
  pub bus : new.bus ≡ old.bus
  pub station : station_of new ≡ station_of old

-- it is open, and this holds of what it stands for
abbrev pub IsOpenAs : (Held → Type 0) → Option Held → Type 0
IsOpenAs what o = (held : Held) × (o ≡ Some held) × what held
