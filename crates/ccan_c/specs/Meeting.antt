-- The three ports of a chip that meet. Source: this project's own, over the definitions of two ports that meet.
use Rattle.std.specs.Prelude.{◌≡◌}
use Rattle.ccan_ram.specs.declared.port.PortName.TheVariants.{If1, If2, Bus}
use Rattle.ccan_ram.specs.SharedRam.{IsSamePort}
use Rattle.ccan_endless.specs.Chip.{GoesFrom}
use Rattle.ccan_endless.specs.ChipPort.{ChipPass}
use Rattle.ccan_registers.specs.ChipSteps.{SeesChip}
use Rattle.ccan_c.specs.declared.held.Held.{Held}
use Rattle.ccan_c.specs.declared.chip.Chip.{Chip}
use Rattle.ccan_c.specs.Chip.{AllOpen}
use Rattle.ccan_c.specs.Held.{IsKept, pass_of, port_of}
use Rattle.ccan_c.specs.Step.{own_of}

-- the same port has now seen, in one legal history of the chip, at least what each of the three had seen, and has made no event
pub record HasMet (if1 if2 bus old new : ChipPass) : Type 0 where
  pub same : IsSamePort old.pass new.pass
  pub sees : SeesChip new
  pub begins_if1 : GoesFrom new.whole if1.whole
  pub begins_if2 : GoesFrom new.whole if2.whole
  pub begins_bus : GoesFrom new.whole bus.whole
  pub own : own_of old.pass.port new.whole ≡ own_of old.pass.port old.whole

-- the same for each of the three
pub record HaveMet (if1 if2 bus if1_after if2_after bus_after : ChipPass) : Type 0 where
  pub if1_met : HasMet if1 if2 bus if1 if1_after
  pub if2_met : HasMet if1 if2 bus if2 if2_after
  pub bus_met : HasMet if1 if2 bus bus bus_after

-- the ports of one memory, each in its place
pub record AreThree (h k l : Held) : Type 0 where
  pub second : (pass_of h).memory ≡ (pass_of k).memory
  pub third : (pass_of h).memory ≡ (pass_of l).memory
  pub named_if1 : (pass_of h).port ≡ If1
  pub named_if2 : (pass_of k).port ≡ If2
  pub named_bus : (pass_of l).port ≡ Bus

-- the ports of three handles have met, and nothing else of the handles changed
pub record MeetHeld (h k l h' k' l' : Held) : Type 0 where
  pub ports : HaveMet (port_of h) (port_of k) (port_of l) (port_of h') (port_of k') (port_of l')
  pub keeps_if1 : IsKept h h'
  pub keeps_if2 : IsKept k k'
  pub keeps_bus : IsKept l l'

-- the same for the handles of a chip
abbrev pub Meet : Chip → Chip → Type 0
Meet old new = AllOpen old (λ h k l. AllOpen new (λ h' k' l'. MeetHeld h k l h' k' l'))
