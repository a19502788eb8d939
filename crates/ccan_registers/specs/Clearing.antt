-- The initialisation of the message RAM of a D_CAN. Source: Texas Instruments AM335x Technical Reference Manual, chapter Control
-- Module, "dcan_raminit Register": a register outside of the module starts it. That it leaves zeros, as in a message RAM that was
-- just opened, is (own); so is that it is one change of each object in the order of their numbers, a write of zeros.
use Rattle.std.specs.Prelude.{ℕ, Result}
use Rattle.ccan_object.specs.Command.{command_in}
use Rattle.ccan_object.specs.Record.{zero_record}
use Rattle.ccan_ram.specs.declared.change.Change.{Change}
use Rattle.ccan_ram.specs.declared.change.Change.TheVariants.{Write}
use Rattle.ccan_ram.specs.Terms.{Terms}
use Rattle.ccan_endless.specs.Chip.{ChipHistory}
use Rattle.ccan_registers.specs.declared.access_error.AccessError.{AccessError}
use Rattle.ccan_registers.specs.AllObjects.{ChangesObjects}

-- a write of zeros, by a command with WR/RD, Mask, Arb, Control, Data A and Data B
abbrev pub zeros : Change
zeros = Write (command_in 0x00f3) zero_record

-- each object of the chip becomes one of zeros; or the change of one is refused, and no object after it is changed
abbrev pub ClearsObjects : Terms → ℕ → ChipHistory → ChipHistory → Result (Unit {0}) AccessError → Type 0
ClearsObjects terms tries seen added told = ChangesObjects terms zeros tries seen added told
