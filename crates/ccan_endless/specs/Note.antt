-- A note, by which one port shows another what it has seen. Source: this project's own.
use Rattle.std.specs.Prelude.{◌≡◌, []}
use Rattle.ccan_ram.specs.ByPort.{nothing}
use Rattle.ccan_ram.specs.SharedRam.{Memory}
use Rattle.ccan_endless.specs.Chip.{ChipHistory}
use Rattle.ccan_endless.specs.Seat.{SeatKnows}

-- the memory of the port that made it, and all that this port had seen of the chip
pub record Told : Type 0 where
  pub memory : Memory
  pub whole : ChipHistory

-- the seat of a note holds no port
pub record IsNote (seat : SeatKnows) : Type 0 where
  pub me : seat.me ≡ (nothing, [])
  pub chip : seat.chip ≡ nothing
