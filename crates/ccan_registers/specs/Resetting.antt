-- What a reset of a chip comes to in its history. Source: C_CAN User's Manual 1.2, "Hardware Reset Description" (the
-- registers have their reset values, and the data in the Message RAM is not affected) and the summary of registers (the reset
-- value of Transmission Request, New Data, Interrupt Pending and Message Valid is 0). That it is one change of the
-- controller, and then one of each object in the order of their numbers, is (own). So is that the software reset of a D_CAN does
-- the same: Texas Instruments AM335x Technical Reference Manual, chapter DCAN, "CAN Control Register", says of SWR that the module
-- is forced to the reset state.
use Rattle.std.specs.Prelude.{ℕ, ◌≡◌, ◌⊎◌, Result, Ok, Err}
use Rattle.ccan_confine.specs.declared.controller_change.ControllerChange.{ControllerChange}
use Rattle.ccan_ram.specs.declared.change.Change.TheVariants.{Reset}
use Rattle.ccan_ram.specs.Terms.{Terms}
use Rattle.ccan_endless.specs.Chip.{ChipHistory}
use Rattle.ccan_registers.specs.declared.access_error.AccessError.{AccessError}
use Rattle.ccan_registers.specs.AllObjects.{ChangesObjects}
use Rattle.ccan_registers.specs.ChipSteps.{Makes, Then}

-- The controller is reset, by this change of it, and then the objects; or the change of the controller was given up, and nothing
-- is reset.
abbrev pub ResetsChip : Terms → ControllerChange → ℕ → ChipHistory → ChipHistory → Result (Unit {0}) AccessError → Type 0
ResetsChip terms reset tries seen added told =
    ((why : AccessError) × (told ≡ Err why) × Makes terms reset tries seen added (Err why))
    ⊎ Then (λ s a. Makes terms reset tries s a (Ok tt)) (λ s a. ChangesObjects terms Reset tries s a told) seen added
