-- What a call does with what an open handle stands for. Source: this project's own.
use Rattle.std.specs.Prelude.{◌≡◌}
use Rattle.ccan_ram.specs.SharedRam.{IsSamePort}
use Rattle.ccan_ram.specs.Terms.{Terms}
use Rattle.ccan_bus.specs.Bus.{LedTo}
use Rattle.ccan_bus.specs.Past.{BusPast}
use Rattle.ccan_endless.specs.Chip.{ChipHistory}
use Rattle.ccan_registers.specs.declared.interface_set.InterfaceSet.{InterfaceSet}
use Rattle.ccan_registers.specs.ChipSteps.{ChipGoes}
use Rattle.ccan_registers.specs.Frames.{StationState}
use Rattle.ccan_c.specs.declared.held.Held.{Held}
use Rattle.ccan_c.specs.Held.{IsKept, WorksAsBefore, pass_of, port_of, station_of}

-- the port makes steps of which this holds, and all else of the handle stays
pub record Steps (what : Terms → ChipHistory → ChipHistory → Type 0) (old new : Held) : Type 0 where
  pub kept : IsKept old new
  pub goes : ChipGoes (port_of old) (port_of new) what

-- the same, and the interface registers may change
pub record HostSteps (what : Terms → ChipHistory → ChipHistory → InterfaceSet → Type 0) (old new : Held) : Type 0 where
  pub works : WorksAsBefore old new
  pub bus : new.bus ≡ old.bus
  pub station : station_of new ≡ station_of old
  pub goes : ChipGoes (port_of old) (port_of new) (λ terms seen added. what terms seen added new.own)

-- the same for the bus: each past that may have led to it goes on
pub record BusSteps (what : Terms → BusPast → ChipHistory → ChipHistory → BusPast → Type 0) (old new : Held) : Type 0 where
  pub same : IsSamePort (pass_of old) (pass_of new)
  pub works : WorksAsBefore old new
  pub own : new.own ≡ old.own
  pub goes : (past : BusPast) → LedTo past old.bus.bus
      → (after : BusPast) × LedTo after new.bus.bus
      × ChipGoes (port_of old) (port_of new) (λ terms seen added. what terms past seen added after)

-- the same for its part in a frame on a bus of several
pub record StationSteps (what : Terms → StationState → ChipHistory → ChipHistory → StationState → Type 0) (old new : Held)
    : Type 0 where
  pub works : WorksAsBefore old new
  pub own : new.own ≡ old.own
  pub goes : ChipGoes (port_of old) (port_of new)
      (λ terms seen added. what terms (station_of old) seen added (station_of new))
