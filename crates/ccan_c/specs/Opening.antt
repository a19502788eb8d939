-- How a chip begins, and what it is opened with. Source: C_CAN User's Manual 1.2, and Texas Instruments AM335x Technical
-- Reference Manual, chapter DCAN, the reset values of the registers.
use Rattle.std.specs.Prelude.{ℕ, []}
use Rattle.ccan_ram.specs.declared.port.PortName.{PortName}
use Rattle.ccan_ram.specs.SharedRam.{Memory, opened}
use Rattle.ccan_endless.specs.Chip.{ChipHistory}
use Rattle.ccan_endless.specs.ChipPort.{ChipPass, begun_by, reset_history}
use Rattle.ccan_chip.specs.declared.map.Map.{Map}
use Rattle.ccan_chip.specs.declared.map.Map.TheVariants.{Narrow}
use Rattle.ccan_registers.specs.declared.interface_set.InterfaceSet.{InterfaceSet}
use Rattle.ccan_registers.specs.Dcan.{reset_of}
use Rattle.ccan_registers.specs.InterfaceSet.{reset_set, zero_set}

-- how a chip begins: with all registers 0, or as after a reset, whose event is the first of its history
pub record Opening : Type 0 where
  pub begun : ChipHistory
  pub own : InterfaceSet

abbrev pub at_zero : Opening
at_zero = record { begun = []; own = zero_set }

abbrev pub after_reset : Opening
after_reset = record { begun = reset_history; own = reset_set }

-- the same after the reset of the layout's part
abbrev pub after_reset_of : Map → Opening
after_reset_of map = record { begun = begun_by (reset_of map); own = reset_set }

-- a port of a chip as it begins
abbrev pub begins_as : Memory → PortName → Opening → ChipPass
begins_as memory port opening = record { pass = opened memory port; whole = opening.begun }

-- what a chip is opened with
pub record Set : Type 0 where
  pub nodes : ℕ
  pub tries : ℕ
  pub map : Map
  pub opening : Opening

-- without a reset, and with the layout of a C_CAN
abbrev pub plain : ℕ → ℕ → Set
plain nodes tries = record { nodes = nodes; tries = tries; map = Narrow; opening = at_zero }
