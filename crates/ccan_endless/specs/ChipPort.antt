-- What a port of a chip knows, and what its steps at the controller add to that. Source: this project's own; what a reset leaves
-- is that of C_CAN User's Manual 1.2, "Hardware Reset Description".
use Rattle.std.specs.Prelude.{◌≡◌, ℕ, ◌+◌, ◌≤◌, ◌∷◌, [], length, Option, Some, None}
use Rattle.ccan_confine.specs.declared.controller.Controller.{Controller}
use Rattle.ccan_confine.specs.declared.controller_change.ControllerChange.{ControllerChange}
use Rattle.ccan_confine.specs.declared.controller_change.ControllerChange.TheVariants.{Reset}
use Rattle.ccan_confine.specs.Controller.{new_controller}
use Rattle.ccan_ram.specs.declared.port.PortName.TheVariants.{Bus}
use Rattle.ccan_ram.specs.History.{BeginsWith, events_of}
use Rattle.ccan_ram.specs.SharedRam.{Pass, CanSee, IsSamePort}
use Rattle.ccan_endless.specs.declared.chip.ChipEvent.TheVariants.{OfController}
use Rattle.ccan_endless.specs.declared.chip.ControllerStep.{ControllerStep}
use Rattle.ccan_endless.specs.declared.chip.ControllerStep.TheVariants.{Make}
use Rattle.ccan_endless.specs.Chip.{ChipHistory, IsControllerStep, IsControllerLegal, GoesFrom, ram_of, steps_of, step_at}
use Rattle.ccan_endless.specs.ChipLaws.{changes_in}

-- a port of a memory with what it has seen of the message RAM, and of the whole chip
pub record ChipPass : Type 0 where
  pub pass : Pass
  pub whole : ChipHistory

-- what has been seen of the chip for a port, if the seat holds it
abbrev pub whole_in : Option ChipHistory → ChipHistory
whole_in None = []
whole_in (Some h) = h

-- what a port has seen of the message RAM is the message RAM's part of what it has seen of the chip, and each step at the
-- controller there is legal
pub record SeesOne (port : ChipPass) : Type 0 where
  pub ram : port.pass.seen ≡ ram_of port.whole
  pub legal : IsControllerLegal port.whole

-- a call adds one step at the controller to all that its port had seen, after steps of others, and finds what these left
pub record AddsController (old new : ChipPass) (step : ControllerStep) (before : Controller) : Type 0 where
  pub same : IsSamePort old.pass new.pass
  pub from : SeesOne old
  pub to : SeesOne new
  pub log : ChipHistory
  pub part : GoesFrom log old.whole
  pub own : steps_of old.pass.port log ≡ steps_of old.pass.port old.whole
  pub whole : new.whole ≡ OfController (step_at old.pass.port step before) ∷ log
  pub stands : IsControllerStep (step_at old.pass.port step before) log

-- a call adds no step of its port at the controller to what the port had seen
pub record AddsNone (old new : ChipPass) : Type 0 where
  pub same : IsSamePort old.pass new.pass
  pub from : SeesOne old
  pub to : SeesOne new
  pub part : GoesFrom new.whole old.whole
  pub own : steps_of old.pass.port new.whole ≡ steps_of old.pass.port old.whole

-- a call adds no event of its port at an object
pub record AddsNoEvent (old new : ChipPass) : Type 0 where
  pub part : BeginsWith new.pass.seen old.pass.seen
  pub own : events_of old.pass.port new.pass.seen ≡ events_of old.pass.port old.pass.seen
  pub sees : CanSee new.pass

-- between these histories there are at least so many changes of the controller
abbrev pub HasChanges : ℕ → ChipHistory → ChipHistory → Type 0
HasChanges count older newer = length (changes_in older) + count ≤ length (changes_in newer)

-- two ports of a chip that meet make no step, and have then seen the same
pub record ChipMeets (a b new_a new_b : ChipPass) : Type 0 where
  pub none_a : AddsNone a new_a
  pub none_b : AddsNone b new_b
  pub one : new_b.whole ≡ new_a.whole

-- a chip whose first event is this change of its controller, by the bus's port
abbrev pub begun_by : ControllerChange → ChipHistory
begun_by change = OfController (step_at Bus (Make change) new_controller) ∷ []

-- a chip after its hardware reset: the first event is that reset
abbrev pub reset_history : ChipHistory
reset_history = begun_by Reset
