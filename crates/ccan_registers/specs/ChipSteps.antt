-- What a call on a port of a chip adds to the one history of the chip: events at objects, looks and changes of the controller,
-- and several of these, one after another. Source: this project's own.
use Rattle.std.specs.Prelude.{ℕ, ◌≡◌, List, [], ◌∷◌, ◌++◌, Result, Ok, Err}
use Rattle.ccan_confine.specs.declared.controller.Controller.{Controller}
use Rattle.ccan_confine.specs.declared.controller_change.ControllerChange.{ControllerChange}
use Rattle.ccan_confine.specs.Controller.{controller_after}
use Rattle.ccan_ram.specs.declared.port.PortName.{PortName}
use Rattle.ccan_ram.specs.declared.event.Event.{Event}
use Rattle.ccan_ram.specs.History.{events_of}
use Rattle.ccan_ram.specs.SharedRam.{CanSee, IsSamePort, terms_of}
use Rattle.ccan_ram.specs.Terms.{Terms}
use Rattle.ccan_endless.specs.declared.chip.ChipEvent.TheVariants.{OfController}
use Rattle.ccan_endless.specs.declared.chip.ControllerStep.{ControllerStep}
use Rattle.ccan_endless.specs.declared.chip.ControllerStep.TheVariants.{Make}
use Rattle.ccan_endless.specs.declared.controller_changed.ControllerBusy.{ControllerBusy}
use Rattle.ccan_endless.specs.declared.controller_changed.ControllerChanged.{ControllerChanged}
use Rattle.ccan_endless.specs.Chip.{ChipHistory, IsControllerStep, controller_at, ram_of, step_at, steps_of}
use Rattle.ccan_endless.specs.ChipPort.{ChipPass, HasChanges, SeesOne}
use Rattle.ccan_endless.specs.Layout.{same_object}
use Rattle.ccan_registers.specs.declared.access_error.AccessError.{AccessError}
use Rattle.ccan_registers.specs.declared.access_error.AccessError.TheVariants.{Busy}

-- all that a port has seen is a legal history of the chip
pub record SeesChip (port : ChipPass) : Type 0 where
  pub one : SeesOne port
  pub sees : CanSee port.pass

-- what a port of a chip works under
abbrev pub terms_at : ChipPass → Terms
terms_at port = terms_of same_object port.pass.memory port.pass.port

-- A call adds events to all that its port had seen, and this holds of them. The events are the newest first.
pub record ChipGoes (old new : ChipPass) (what : Terms → ChipHistory → ChipHistory → Type 0) : Type 0 where
  pub same : IsSamePort old.pass new.pass
  pub each : SeesChip old
      → (added : ChipHistory) × SeesChip new × (new.whole ≡ added ++ old.whole) × what (terms_at old) old.whole added

-- the port made these steps at objects, and none at the controller; other ports' steps may come in between
pub record OnObjects (port : PortName) (what : List Event → List Event → Type 0) (seen added : ChipHistory) : Type 0 where
  pub none : steps_of port added ≡ []
  pub means : what (ram_of seen) (ram_of added)

-- other ports may act, and then the port makes one step at the controller that they left, and none at an object
pub record AtController (port : PortName) (step : ControllerStep) (before : Controller) (seen added : ChipHistory) : Type 0 where
  pub others : ChipHistory
  pub whole : added ≡ OfController (step_at port step before) ∷ others
  pub none : steps_of port others ≡ []
  pub quiet : events_of port (ram_of others) ≡ []
  pub stands : IsControllerStep (step_at port step before) (others ++ seen)

-- a change of the controller that was given up: so many changes of other ports came between, and the port made no step. The tries
-- and the controller that was found last are reported
pub record IsLost (port : PortName) (tries : ℕ) (busy : ControllerBusy) (seen added : ChipHistory) : Type 0 where
  pub none : steps_of port added ≡ []
  pub quiet : events_of port (ram_of added) ≡ []
  pub changes : HasChanges tries seen (added ++ seen)
  pub tries_are : busy.tries ≡ tries
  pub found : busy.controller ≡ controller_at (added ++ seen)

-- a change of the controller, in at most so many tries, as it ends
abbrev pub Changes : PortName → ControllerChange → ℕ → ChipHistory → ChipHistory → Result ControllerChanged ControllerBusy
    → Type 0
Changes port change tries seen added (Ok made) =
    AtController port (Make change) made.before seen added × (made.after ≡ controller_after change made.before)
Changes port change tries seen added (Err busy) = IsLost port tries busy seen added

-- a change was made or given up
abbrev pub made_or_busy : Result ControllerChanged ControllerBusy → Result (Unit {0}) AccessError
made_or_busy (Ok made) = Ok tt
made_or_busy (Err busy) = Err Busy

-- an access that makes one change of the controller
abbrev pub Makes : Terms → ControllerChange → ℕ → ChipHistory → ChipHistory → Result (Unit {0}) AccessError → Type 0
Makes terms z tries seen added told =
    (outcome : Result ControllerChanged ControllerBusy) × Changes terms.port z tries seen added outcome
    × (told ≡ made_or_busy outcome)

-- the one, and then the other
pub record Then (first second : ChipHistory → ChipHistory → Type 0) (seen added : ChipHistory) : Type 0 where
  pub earlier : ChipHistory
  pub later : ChipHistory
  pub whole : added ≡ later ++ earlier
  pub begins : first seen earlier
  pub ends : second (earlier ++ seen) later
