-- The history of a whole chip: the events of its message RAM and those of its controller, the newest first. The history of the
-- message RAM is a part of it. Source: this project's own; what a change makes of the controller is `controller_after`.
use Rattle.std.specs.Prelude.{◌≡◌, true, List, [], ◌∷◌, ◌++◌, if◌then◌else◌}
use Rattle.ccan_confine.specs.declared.controller.Controller.{Controller}
use Rattle.ccan_confine.specs.declared.controller_change.ControllerChange.{ControllerChange}
use Rattle.ccan_confine.specs.Controller.{IsController, CanMake, controller_after, is_handlers, new_controller}
use Rattle.ccan_ram.specs.declared.port.PortName.{PortName}
use Rattle.ccan_ram.specs.declared.port.PortName.TheVariants.{Bus}
use Rattle.ccan_ram.specs.Port.{same_port}
use Rattle.ccan_ram.specs.History.{History}
use Rattle.ccan_endless.specs.declared.chip.ChipEvent.{ChipEvent}
use Rattle.ccan_endless.specs.declared.chip.ChipEvent.TheVariants.{OfRam, OfController}
use Rattle.ccan_endless.specs.declared.chip.ControllerEvent.{ControllerEvent}
use Rattle.ccan_endless.specs.declared.chip.ControllerStep.{ControllerStep}
use Rattle.ccan_endless.specs.declared.chip.ControllerStep.TheVariants.{Look, Make}

abbrev pub ChipHistory : Type 0
ChipHistory = List ChipEvent

-- the history of the message RAM
abbrev pub ram_of : ChipHistory → History
ram_of [] = []
ram_of (OfRam e ∷ h) = e ∷ ram_of h
ram_of (OfController e ∷ h) = ram_of h

-- the controller after the history
abbrev pub controller_at : ChipHistory → Controller
controller_at [] = new_controller
controller_at (OfRam e ∷ h) = controller_at h
controller_at (OfController e ∷ h) = e.after

-- the steps of a port at the controller
abbrev pub steps_of : PortName → ChipHistory → List ControllerEvent
steps_of port [] = []
steps_of port (OfRam e ∷ h) = steps_of port h
steps_of port (OfController e ∷ h) = if same_port e.port port then e ∷ steps_of port h else steps_of port h

-- The port may make the change: the ends of frames, the groups of recessive bits and a reset are the bus's alone, but a reset of
-- a D_CAN is not.
pub record MayMake (port : PortName) (change : ControllerChange) : Type 0 where
  pub can : CanMake change
  pub own : is_handlers change ≡ true → port ≡ Bus

abbrev pub MayStand : PortName → ControllerStep → Type 0
MayStand port Look = Unit {0}
MayStand port (Make change) = MayMake port change

-- a look leaves the controller as it is, a change makes another of it
abbrev pub left_by : ControllerStep → Controller → Controller
left_by Look before = before
left_by (Make change) before = controller_after change before

-- the event is a step at the controller that the history left
pub record IsControllerStep (event : ControllerEvent) (history : ChipHistory) : Type 0 where
  pub before : event.before ≡ controller_at history
  pub after : event.after ≡ left_by event.step event.before
  pub stands : MayStand event.port event.step
  pub is : IsController event.after

-- each step at the controller fits the history before it
abbrev pub IsControllerLegal : ChipHistory → Type 0
IsControllerLegal [] = Unit {0}
IsControllerLegal (OfRam e ∷ h) = IsControllerLegal h
IsControllerLegal (OfController e ∷ h) = IsControllerStep e h × IsControllerLegal h

-- the newer history goes on from the older one
abbrev pub GoesFrom : ChipHistory → ChipHistory → Type 0
GoesFrom newer older = (more : ChipHistory) × (newer ≡ more ++ older)

-- a port's step at a controller
abbrev pub step_at : PortName → ControllerStep → Controller → ControllerEvent
step_at port step before = record { port = port; step = step; before = before; after = left_by step before }
