-- A chip that is saved, and one that is opened from what was saved. Source: this project's own.
use Rattle.std.specs.Prelude.{ℕ, ◌≡◌, ◌⊎◌, List, Ok}
use Rattle.ccan_ram.specs.declared.port.PortName.TheVariants.{Bus, If1, If2}
use Rattle.ccan_ram.specs.SharedRam.{IsMemoryOf, Memory}
use Rattle.ccan_endless.specs.ChipPort.{ChipPass}
use Rattle.ccan_endless.specs.Layout.{most}
use Rattle.ccan_registers.specs.declared.interface_set.InterfaceSet.{InterfaceSet}
use Rattle.ccan_registers.specs.ChipSteps.{ChipGoes}
use Rattle.ccan_registers.specs.InterfaceSet.{reset_set}
use Rattle.ccan_registers.specs.declared.saved.chip.Saved.{Saved}
use Rattle.ccan_registers.specs.Format.{text_of}
use Rattle.ccan_registers.specs.Looks.{LooksAtAll}
use Rattle.ccan_registers.specs.PutBack.{PutsBack}
use Rattle.ccan_c.specs.declared.chip.Chip.{Chip}
use Rattle.ccan_c.specs.declared.held.Held.{Held}
use Rattle.ccan_c.specs.Chip.{AllOpen}
use Rattle.ccan_c.specs.Codes.{busy, no_chip, no_memory, spent}
use Rattle.ccan_c.specs.Held.{IsHolding, pass_of, map_of, tries_of}
use Rattle.ccan_c.specs.Meeting.{HaveMet, MeetHeld}
use Rattle.ccan_c.specs.Opening.{after_reset, begins_as}
use Rattle.ccan_c.specs.Steps.{Steps}

-- what is saved of three handles: what they work with, and what the bus's port finds by one look at the controller and one at
-- each object
pub record IsSavedOf (if1 if2 old new : Held) (saved : Saved) : Type 0 where
  pub profile : saved.profile ≡ (pass_of old).memory.profile
  pub map : saved.map ≡ map_of old
  pub tries : saved.tries ≡ tries_of old
  pub others : saved.others ≡ old.nodes
  pub own_if1 : saved.if1 ≡ if1.own
  pub own_if2 : saved.if2 ≡ if2.own
  pub looks : Steps (λ terms seen added. LooksAtAll terms saved.controller saved.records seen added) old new

-- the three ports meet, and then this is saved of their handles
pub record SavesHeld (h k l h' k' l' : Held) (saved : Saved) : Type 0 where
  pub between : Held
  pub meet : MeetHeld h k l h' k' between
  pub saves : IsSavedOf h' k' between l' saved

-- C gets the text of what is saved of its chip
abbrev pub Saves : Chip → Chip → List ℕ → Type 0
Saves old new text =
    AllOpen old (λ h k l. AllOpen new (λ h' k' l'. (saved : Saved) × (text ≡ text_of saved) × SavesHeld h k l h' k' l' saved))

-- a handle as it opens from what was saved
abbrev pub IsRestored : ChipPass → Saved → InterfaceSet → Held → Type 0
IsRestored port saved own held = IsHolding port saved.others saved.tries saved.map own held

-- A chip as after a reset, which the bus's port then brought to where the saved one was, and saw that it is there; and then the
-- three ports met. Each host has the registers that were saved.
pub record RestoresAs (saved : Saved) (chip : Chip) : Type 0 where
  pub memory : Memory
  pub memory_is : IsMemoryOf saved.profile most memory
  pub put : ChipPass
  pub goes : ChipGoes (begins_as memory Bus after_reset) put (λ terms seen added. PutsBack terms saved seen added (Ok tt))
  pub if1 : ChipPass
  pub if2 : ChipPass
  pub bus : ChipPass
  pub met : HaveMet (begins_as memory If1 after_reset) (begins_as memory If2 after_reset) put if1 if2 bus
  pub handles : AllOpen chip
      (λ h k l. IsRestored if1 saved saved.if1 h × IsRestored if2 saved saved.if2 k × IsRestored bus saved reset_set l)

-- the same for a text
abbrev pub Restores : List ℕ → Chip → Type 0
Restores text chip = (saved : Saved) × (text_of saved ≡ text) × RestoresAs saved chip

-- why the chip of a text is not opened: memory ran out, the last looks found another chip, or a step was refused
abbrev pub IsNotRestored : ℕ → Type 0
IsNotRestored code = (code ≡ no_memory) ⊎ ((code ≡ no_chip) ⊎ ((code ≡ busy) ⊎ (code ≡ spent)))

-- these bytes are the text of a saved chip
abbrev pub IsText : List ℕ → Type 0
IsText bytes = (saved : Saved) × (text_of saved ≡ bytes)
