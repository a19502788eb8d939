-- The three handles of a chip. Source: this project's own.
use Rattle.std.specs.Prelude.{ℕ, ◌≡◌, ◌&&◌, Bool, Some, None, is_some}
use Rattle.ccan_object.specs.declared.profile.Profile.{Profile}
use Rattle.ccan_ram.specs.declared.port.PortName.TheVariants.{If1, If2, Bus}
use Rattle.ccan_ram.specs.SharedRam.{Memory, IsMemoryOf}
use Rattle.ccan_endless.specs.declared.final_chip.FinalChip.{FinalChip}
use Rattle.ccan_endless.specs.ChipEnding.{ChipEnds}
use Rattle.ccan_endless.specs.Layout.{most}
use Rattle.ccan_chip.specs.declared.map.Map.{Map}
use Rattle.ccan_c.specs.declared.held.Held.{Held}
use Rattle.ccan_c.specs.declared.chip.Chip.{Chip}
use Rattle.ccan_c.specs.declared.shown_final.ShownFinal.{ShownFinal}
use Rattle.ccan_c.specs.Held.{port_of, IsOpening}
use Rattle.ccan_c.specs.Opening.{Set, after_reset_of, begins_as}
use Rattle.ccan_c.specs.Record.{IsFinal}
use Rattle.ccan_c.specs.Settings.{map_numbered, profile_numbered}

-- all three are open
abbrev pub are_open : Chip → Bool
are_open chip =
    is_some chip.if1.handle.seal.value && (is_some chip.if2.handle.seal.value && is_some chip.bus.handle.seal.value)

-- all three are open, and this holds of what they stand for
abbrev pub AllOpen : Chip → (Held → Held → Held → Type 0) → Type 0
AllOpen chip what =
    (first second third : Held) × (chip.if1.handle.seal.value ≡ Some first) × (chip.if2.handle.seal.value ≡ Some second)
    × (chip.bus.handle.seal.value ≡ Some third) × what first second third

-- none of them is open
pub record IsClosed (chip : Chip) : Type 0 where
  pub if1 : chip.if1.handle.seal.value ≡ None
  pub if2 : chip.if2.handle.seal.value ≡ None
  pub bus : chip.bus.handle.seal.value ≡ None

-- the three ports of a memory that was just opened, each in its place; a port may make as many changes as the memory numbers
pub record Opens (profile : Profile) (set : Set) (chip : Chip) : Type 0 where
  pub memory : Memory
  pub memory_is : IsMemoryOf profile most memory
  pub handles : AllOpen chip (λ h k l. IsOpening (begins_as memory If1 set.opening) set h
      × IsOpening (begins_as memory If2 set.opening) set k × IsOpening (begins_as memory Bus set.opening) set l)

-- C gets the records that the one history of the chip leaves; each of the three ports has seen a part of it
abbrev pub EndsWith : Chip → ShownFinal → Type 0
EndsWith chip out =
    AllOpen chip (λ h k l. (final : FinalChip) × ChipEnds (port_of h) (port_of k) (port_of l) final × IsFinal final.memory out)

-- the same for a profile by its number
abbrev pub OpensAs : ℕ → Set → Chip → Type 0
OpensAs number set chip = (profile : Profile) × (profile_numbered number ≡ Some profile) × Opens profile set chip

-- and for a layout by its number, as after a reset
abbrev pub ResetsAs : ℕ → ℕ → ℕ → ℕ → Chip → Type 0
ResetsAs number nodes tries layout chip =
    (map : Map) × (map_numbered layout ≡ Some map)
    × OpensAs number (record { nodes = nodes; tries = tries; map = map; opening = after_reset_of map }) chip
