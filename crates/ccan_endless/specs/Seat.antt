-- What contracts see of a seat on a chip's words. Source: this project's own.
use Rattle.std.specs.Prelude.{◌≡◌, ℕ, Some}
use Rattle.atomic_table.specs.Seated.{TableId}
use Rattle.ccan_ram.specs.declared.port.PortName.{PortName}
use Rattle.ccan_ram.specs.declared.by_port.ByPort.{ByPort}
use Rattle.ccan_ram.specs.ByPort.{holding}
use Rattle.ccan_endless.specs.declared.view.ChipView.{ChipView}
use Rattle.ccan_endless.specs.Plays.{Knows}
use Rattle.ccan_endless.specs.Chip.{ChipHistory, IsControllerLegal}
use Rattle.ccan_endless.specs.ChipRule.{ChipKnows, Agree, IsBeginning, ram_knows}

pub record SeatKnows : Type 0 where
  pub table_id : TableId
  pub id : ℕ
  -- what it knows of the message RAM
  pub me : Knows
  -- what each port that it holds has seen of the chip
  pub chip : ByPort ChipHistory
  -- what the last port which left it had seen of the chip
  pub told : ChipHistory

abbrev pub knows_of : TableId → ℕ → ChipKnows → SeatKnows
knows_of table id m = record { table_id = table; id = id; me = ram_knows m; chip = m.0.chip; told = m.0.told }

-- the same, in the form in which the words' rule speaks of it
abbrev pub chip_me : SeatKnows → ChipKnows
chip_me s = (record { ram = s.me.0; chip = s.chip; told = s.told }, s.me.1)

-- what a seat has seen of the message RAM is the message RAM's part of what it has seen of the chip, and the latter is
-- legal
abbrev pub IsSeated : ChipView → Type 0
IsSeated v =
    (p : PortName) → Agree (holding p v.ram) (holding p v.chip)
    × ((h : ChipHistory) → holding p v.chip ≡ Some h → IsControllerLegal h)

-- each port of a seat has seen what it had seen, and more of the chip, without a step of its own at the controller
abbrev pub EachGoesOn : ChipKnows → ChipKnows → Type 0
EachGoesOn m n =
    (p : PortName) (h : ChipHistory) → holding p m.0.chip ≡ Some h
    → (g : ChipHistory) × (holding p n.0.chip ≡ Some g) × IsBeginning g p h

-- so a seat goes on in the chip's history
pub record GoOn (m n : ChipKnows) : Type 0 where
  pub each : EachGoesOn m n
  pub seated : IsSeated m.0 → IsSeated n.0
