-- What a port adds to the history of the chip when it heeds a note. Source: this project's own.
use Rattle.std.specs.Prelude.{◌≡◌, [], ◌++◌}
use Rattle.ccan_ram.specs.declared.port.PortName.{PortName}
use Rattle.ccan_ram.specs.History.{events_of}
use Rattle.ccan_endless.specs.Chip.{ChipHistory, GoesFrom, ram_of, steps_of}

-- other ports may act, and the port makes no step: what it has seen then goes on from `told`
pub record Heeds (port : PortName) (told seen added : ChipHistory) : Type 0 where
  pub none : steps_of port added ≡ []
  pub quiet : events_of port (ram_of added) ≡ []
  pub heeds : GoesFrom (added ++ seen) told
