-- What follows for every history of a chip whose steps at the controller are legal. Source: this project's own; fault
-- confinement is that of CAN Specification 2.0.
use Rattle.std.specs.Prelude.{◌≡◌, true, false, List, [], ◌∷◌, ◌++◌}
use Rattle.std.specs.List.{list_any}
use Rattle.ccan_confine.specs.declared.controller_change.ControllerChange.{ControllerChange}
use Rattle.ccan_confine.specs.Counters.{AreAfter}
use Rattle.ccan_confine.specs.ControllerLaws.{controller_of, is_dcan_reset, node_events}
use Rattle.ccan_ram.specs.declared.port.PortName.TheVariants.{Bus}
use Rattle.ccan_endless.specs.declared.chip.ChipEvent.TheVariants.{OfRam, OfController}
use Rattle.ccan_endless.specs.declared.chip.ControllerStep.{ControllerStep}
use Rattle.ccan_endless.specs.declared.chip.ControllerStep.TheVariants.{Look, Make}
use Rattle.ccan_endless.specs.Chip.{ChipHistory, controller_at, steps_of, IsControllerLegal}

-- a change comes before the others, a look leaves them as they are
abbrev pub add_change : ControllerStep → List ControllerChange → List ControllerChange
add_change Look changes = changes
add_change (Make change) changes = change ∷ changes

-- the changes of the controller in a history
abbrev pub changes_in : ChipHistory → List ControllerChange
changes_in [] = []
changes_in (OfRam e ∷ h) = changes_in h
changes_in (OfController e ∷ h) = add_change e.step (changes_in h)

-- the controller is what its changes made of it
abbrev pub ControllerIsItsChanges : Type 0
ControllerIsItsChanges = (h : ChipHistory) → IsControllerLegal h → controller_at h ≡ controller_of (changes_in h)

-- its error counters are those that fault confinement defines for what the changes mean to them
abbrev pub CountersAreAsDefined : Type 0
CountersAreAsDefined =
    (h : ChipHistory) → IsControllerLegal h → AreAfter true (node_events (changes_in h)) (controller_at h).counters

-- TEC and REC change by the bus's own steps alone, and by resets of a D_CAN, which hosts may make
abbrev pub LevelsAreTheHandlers : Type 0
LevelsAreTheHandlers =
    (more h : ChipHistory) → IsControllerLegal (more ++ h) → steps_of Bus more ≡ []
    → list_any is_dcan_reset (changes_in more) ≡ false
    → (controller_at (more ++ h)).counters.levels ≡ (controller_at h).counters.levels
