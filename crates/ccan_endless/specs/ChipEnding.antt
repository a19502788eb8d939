-- The end of a chip. Source: this project's own.
use Rattle.std.specs.Prelude.{◌≡◌}
use Rattle.ccan_confine.specs.Controller.{IsController}
use Rattle.ccan_ram.specs.History.{IsLegal}
use Rattle.ccan_ram.specs.Ending.{IsPart, final_records}
use Rattle.ccan_endless.specs.declared.final_chip.FinalChip.{FinalChip}
use Rattle.ccan_endless.specs.Chip.{ChipHistory, GoesFrom, IsControllerLegal, controller_at, ram_of, steps_of}
use Rattle.ccan_endless.specs.ChipPort.{ChipPass}

-- what the port has seen is a part of the whole history of the chip, which has no other events of the port, neither at
-- objects nor at the controller
pub record IsChipPart (port : ChipPass) (history : ChipHistory) : Type 0 where
  pub begins : GoesFrom history port.whole
  pub steps : steps_of port.pass.port history ≡ steps_of port.pass.port port.whole
  pub ram : IsPart port.pass (ram_of history)

-- One history of the chip, with all events of each port and no others; each port has seen a part of it. Its events at objects are
-- legal and leave the records; its steps at the controller are legal and leave the controller.
pub record ChipEnds (if1 if2 bus : ChipPass) (final : FinalChip) : Type 0 where
  pub profile_is : final.memory.profile ≡ if1.pass.memory.profile
  pub history : ChipHistory
  pub legal : IsLegal final.memory.profile (ram_of history)
  pub steps_legal : IsControllerLegal history
  pub part_if1 : IsChipPart if1 history
  pub part_if2 : IsChipPart if2 history
  pub part_bus : IsChipPart bus history
  pub left : final.memory.records ≡ final_records final.memory.profile (ram_of history)
  pub controller_is : final.controller ≡ controller_at history
  pub is : IsController final.controller
