-- Laws of the rounds of a chip. Source: CAN Specification 2.0, "Fault Confinement" (an event changes the counters as they are);
-- that hosts may change the controller's registers in the middle of a round is this project's own.
use Rattle.std.specs.Prelude.{ℕ, ◌≡◌, ◌++◌, false, Some, Ok}
use Rattle.std.specs.List.{list_any}
use Rattle.ccan_confine.specs.ControllerLaws.{is_dcan_reset}
use Rattle.ccan_ram.specs.declared.port.PortName.TheVariants.{Bus}
use Rattle.ccan_ram.specs.Terms.{Terms}
use Rattle.ccan_bus.specs.declared.round_line.RoundLine.{RoundLine}
use Rattle.ccan_bus.specs.Past.{BusPast}
use Rattle.ccan_endless.specs.declared.controller_changed.ControllerChanged.{ControllerChanged}
use Rattle.ccan_endless.specs.Chip.{ChipHistory}
use Rattle.ccan_endless.specs.ChipLaws.{changes_in}
use Rattle.ccan_endless.specs.ChipPort.{ChipPass}
use Rattle.ccan_chip.specs.declared.chip_report.ChipReport.{ChipReport}
use Rattle.ccan_chip.specs.Round.{ChipRound}

-- no D_CAN was reset in a history since an earlier one
abbrev pub HasNoReset : ChipHistory → ChipHistory → Type 0
HasNoReset earlier whole = (more : ChipHistory) → whole ≡ more ++ earlier → list_any is_dcan_reset (changes_in more) ≡ false

-- The error counters that the round's change of the controller finds are those that its look found, whatever hosts did in
-- between, unless one of them reset a D_CAN.
abbrev pub RoundsFindTheirCounters : Type 0
RoundsFindTheirCounters =
    (terms : Terms) (line : RoundLine) (tries : ℕ) (old new : ChipPass) (past after : BusPast) (told : ChipReport)
    (made : ControllerChanged)
    → old.pass.port ≡ Bus → (round : ChipRound terms line tries old new past after told) → told.noted ≡ Some (Ok made)
    → HasNoReset round.looked.whole new.whole
    → made.before.counters.levels ≡ told.found.counters.levels
