-- What a port has done since some earlier time, as a fact that a value can keep. Source: this project's own.
use Rattle.std.specs.Prelude.{◌≡◌, ◌-◌, ◌++◌, length, take}
use Rattle.ccan_ram.specs.SharedRam.{IsSamePort}
use Rattle.ccan_endless.specs.Chip.{steps_of}
use Rattle.ccan_endless.specs.ChipPort.{ChipPass}

-- it made no step at the controller: what it had seen then is the end of what it has seen now, and its own steps there are
-- the same
pub record MadeNone (earlier now : ChipPass) : Type 0 where
  pub same : IsSamePort earlier.pass now.pass
  pub part : now.whole ≡ take (length now.whole - length earlier.whole) now.whole ++ earlier.whole
  pub own : steps_of earlier.pass.port now.whole ≡ steps_of earlier.pass.port earlier.whole
