-- How a load or a round begins: the bus's port comes to a controller that may have left the bus meanwhile. Source: C_CAN User's
-- Manual 1.2, "CAN Control Register" (Init: setting it stops all transfer of messages, and what is pending is not sent before
-- Init is cleared). (own): that a controller which has left is joined again by one change of it, and that the port then looks
-- again.
use Rattle.std.specs.Prelude.{ℕ, ◌≡◌, Bool, ◌&&◌, not, None, Result, Ok, Err, MatchBool, if◌then◌else◌}
use Rattle.ccan_ram.specs.Tries.{most_tries}
use Rattle.ccan_confine.specs.declared.controller.Controller.{Controller}
use Rattle.ccan_confine.specs.declared.controller_change.ControllerChange.{ControllerChange}
use Rattle.ccan_confine.specs.declared.controller_change.ControllerChange.TheVariants.{Join}
use Rattle.ccan_confine.specs.Controller.{controller_after}
use Rattle.ccan_confine.specs.Counters.{is_off}
use Rattle.ccan_bus.specs.Past.{BusPast}
use Rattle.ccan_endless.specs.declared.chip.ControllerStep.TheVariants.{Look, Make}
use Rattle.ccan_endless.specs.declared.controller_changed.ControllerChanged.{ControllerChanged}
use Rattle.ccan_endless.specs.declared.controller_changed.ControllerBusy.{ControllerBusy}
use Rattle.ccan_endless.specs.Chip.{controller_at}
use Rattle.ccan_endless.specs.ChipPort.{AddsController, AddsNoEvent, AddsNone, ChipPass, HasChanges}

-- software initialization is over, and it is not bus off
abbrev pub may_take_part : Controller → Bool
may_take_part c = not c.control.init && not (is_off c.counters.levels)

-- the controller takes part in what is on the bus: it may, and it has not left the bus since the port joined last
abbrev pub takes_part : Controller → Bool
takes_part c = may_take_part c && not c.has_left

-- it comes back: it has left the bus, and may take part again
abbrev pub comes_back : Controller → Bool
comes_back c = may_take_part c && c.has_left

-- nothing is loaded: the object stays requested, so that a later load may start it again
abbrev pub unloaded : BusPast → BusPast
unloaded past = record past { loaded = None }

-- what was loaded is dropped if the controller has left the bus
abbrev pub left_behind : Controller → BusPast → BusPast
left_behind first past = if first.has_left then unloaded past else past

-- a change is made to the controller as it is then, or each try was lost to a change of another port; no step is made at an
-- object
abbrev pub IsMade : ControllerChange → ℕ → ChipPass → ChipPass → Result ControllerChanged ControllerBusy → Type 0
IsMade change tries old new (Ok made) =
    AddsController old new (Make change) made.before × (made.after ≡ controller_after change made.before) × AddsNoEvent old new
IsMade change tries old new (Err busy) =
    AddsNone old new × HasChanges tries old.whole new.whole × (busy.tries ≡ tries)
    × (busy.controller ≡ controller_at new.whole) × AddsNoEvent old new

-- one look at the controller, and no step at an object
pub record LooksAt (old new : ChipPass) (found : Controller) : Type 0 where
  pub adds : AddsController old new Look found
  pub quiet : AddsNoEvent old new

-- the port looked at a controller that comes back, and then joined; this change has as many tries as one may have
pub record Joins (old new : ChipPass) (first : Controller) : Type 0 where
  pub looked : ChipPass
  pub looks : LooksAt old looked first
  pub outcome : Result ControllerChanged ControllerBusy
  pub joins : IsMade Join most_tries looked new outcome

-- The port comes to the bus: it looks at the controller, and if that comes back, it joins and looks again. Its first look found
-- the controller `first`, and its last look `found`.
pub record Arrives (old new : ChipPass) (first found : Controller) : Type 0 where
  pub before : ChipPass
  pub ready : MatchBool (comes_back first) (Joins old before first) ((before ≡ old) × (first ≡ found))
  pub looks : LooksAt before new found
