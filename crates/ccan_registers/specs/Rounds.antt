-- What loads, rounds and recessive bits of the bus of a chip come to in the chip's history. Source: this project's own, over the
-- definitions of the rounds of a chip.
use Rattle.std.specs.Prelude.{ℕ, ◌≡◌, [], ◌++◌, Option, Some, None, Result, Ok, Err, MatchBool}
use Rattle.ccan_ram.specs.declared.port.PortName.{PortName}
use Rattle.ccan_ram.specs.History.{events_of}
use Rattle.ccan_ram.specs.Terms.{Terms}
use Rattle.ccan_ram.specs.Tries.{most_tries}
use Rattle.ccan_confine.specs.declared.bus_event.BusEvent.{BusEvent}
use Rattle.ccan_confine.specs.declared.controller.Controller.{Controller}
use Rattle.ccan_confine.specs.declared.controller_change.ControllerChange.TheVariants.{Frame, Join, Recessive}
use Rattle.ccan_confine.specs.declared.status_event.StatusEvent.{StatusEvent}
use Rattle.ccan_bus.specs.declared.answer.LoadAnswer.{LoadAnswer}
use Rattle.ccan_bus.specs.declared.round_line.RoundLine.{RoundLine}
use Rattle.ccan_bus.specs.Controller.{WasTo}
use Rattle.ccan_bus.specs.Load.{Loads}
use Rattle.ccan_bus.specs.Past.{BusPast, recovers}
use Rattle.ccan_bus.specs.RoundReport.{RunsSteps}
use Rattle.ccan_endless.specs.declared.chip.ControllerStep.TheVariants.{Look}
use Rattle.ccan_endless.specs.declared.controller_changed.ControllerBusy.{ControllerBusy}
use Rattle.ccan_endless.specs.declared.controller_changed.ControllerChanged.{ControllerChanged}
use Rattle.ccan_endless.specs.Chip.{ChipHistory, ram_of, steps_of}
use Rattle.ccan_chip.specs.declared.chip_report.ChipReport.{ChipReport}
use Rattle.ccan_chip.specs.Arrival.{comes_back, left_behind}
use Rattle.ccan_chip.specs.Round.{as_found, events_in}
use Rattle.ccan_registers.specs.ChipSteps.{AtController, Changes, OnObjects, Then}

-- the port made no step
pub record IsStill (port : PortName) (added : ChipHistory) : Type 0 where
  pub none : steps_of port added ≡ []
  pub quiet : events_of port (ram_of added) ≡ []

-- the port of the bus joined a controller that comes back, or each of its tries was lost; and then it looked once more
abbrev pub JoinsOnChip : PortName → Controller → ChipHistory → ChipHistory → Type 0
JoinsOnChip port found seen added =
    (outcome : Result ControllerChanged ControllerBusy)
    × Then (λ s a. Changes port Join most_tries s a outcome) (λ s a. AtController port Look found s a) seen added

-- the port comes to the bus: it looks at the controller, and if that comes back, it joins and looks again
abbrev pub ArrivesOnChip : PortName → Controller → Controller → ChipHistory → ChipHistory → Type 0
ArrivesOnChip port first found seen added =
    MatchBool (comes_back first)
    (Then (λ s a. AtController port Look first s a) (λ s a. JoinsOnChip port found s a) seen added)
    (AtController port Look found seen added × (first ≡ found))

-- a load: the port comes to the bus, and what was loaded is dropped if the controller has left it; and then what is sent is
-- chosen and started, as the bus is with the controller that was found
pub record LoadsOnChip (terms : Terms) (tries : ℕ) (past : BusPast) (seen added : ChipHistory) (after : BusPast)
    (found : Controller) (loading : LoadAnswer) : Type 0 where
  pub looked : ChipHistory
  pub later : ChipHistory
  pub whole : added ≡ later ++ looked
  pub first : Controller
  pub arrives : ArrivesOnChip terms.port first found seen looked
  pub loads : OnObjects terms.port
      (λ s a. Loads terms tries s a (as_found found (events_in (looked ++ seen)) (left_behind first past)) after loading)
      (looked ++ seen) later

-- the event of a round at the controller, if it has one: it is made, or given up
abbrev pub NotesEvent : PortName → ℕ → Option (BusEvent × StatusEvent) → Option (Result ControllerChanged ControllerBusy)
    → ChipHistory → ChipHistory → Type 0
NotesEvent port tries None noted seen added = (noted ≡ None) × IsStill port added
NotesEvent port tries (Some own) None seen added = ⊥
NotesEvent port tries (Some own) (Some outcome) seen added = Changes port (Frame own.0 own.1) tries seen added outcome

-- A round: the port comes to the bus, and what was loaded is dropped if the controller has left it; then the load, the decision
-- and the steps at objects that are due, as the bus is with the controller that was found; and last, the event that all this was
-- to the controller, which has as many tries as a change may have.
pub record RoundOnChip (terms : Terms) (line : RoundLine) (tries : ℕ) (past : BusPast) (seen added : ChipHistory)
    (after : BusPast) (told : ChipReport) : Type 0 where
  pub looked : ChipHistory
  pub steps : ChipHistory
  pub last : ChipHistory
  pub whole : added ≡ last ++ (steps ++ looked)
  pub first : Controller
  pub arrives : ArrivesOnChip terms.port first told.found seen looked
  pub runs : OnObjects terms.port
      (λ s a. RunsSteps terms line tries s a (as_found told.found (events_in (looked ++ seen)) (left_behind first past)) after
      told.report) (looked ++ seen) steps
  pub own : WasTo told.own (as_found told.found (events_in (looked ++ seen)) (left_behind first past)) after
  pub notes : NotesEvent terms.port most_tries told.own told.noted (steps ++ (looked ++ seen)) last

-- groups of recessive bits: the controller has them by one change, and every other node has them; or the change was given up, and
-- no node has seen any
abbrev pub RecoversOnChip : Terms → ℕ → ℕ → BusPast → ChipHistory → ChipHistory → BusPast
    → Result ControllerChanged ControllerBusy → Type 0
RecoversOnChip terms groups tries past seen added after (Ok made) =
    Changes terms.port (Recessive groups) tries seen added (Ok made) × (after ≡ recovers groups past)
RecoversOnChip terms groups tries past seen added after (Err busy) =
    Changes terms.port (Recessive groups) tries seen added (Err busy) × (after ≡ past)
