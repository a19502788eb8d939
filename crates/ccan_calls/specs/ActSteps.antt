-- The steps that a port makes in an act, by what comes of it. Source: this project's own.
use Rattle.std.specs.Prelude.{ℕ, zero, suc, ◌≡◌, ◌≤◌, ◌<◌, ◌*◌, List, [], ◌∷◌, ◌++◌, Result, Ok, Err}
use Rattle.ccan_object.specs.declared.record.Record.{Record}
use Rattle.ccan_object.specs.Profile.{objects_in}
use Rattle.ccan_confine.specs.declared.controller_change.ControllerChange.{ControllerChange}
use Rattle.ccan_ram.specs.declared.change.Change.{Change}
use Rattle.ccan_ram.specs.declared.event.Event.{Event}
use Rattle.ccan_ram.specs.declared.port.PortName.{PortName}
use Rattle.ccan_ram.specs.Attempt.{change_at, look_at}
use Rattle.ccan_ram.specs.History.{events_of}
use Rattle.ccan_ram.specs.Terms.{Terms}
use Rattle.ccan_handler.specs.Laws.{LooksInTurn}
use Rattle.ccan_process.specs.Act.{Attempted, GaveUp, Made, Unfit, WasSpent}
use Rattle.ccan_endless.specs.declared.chip.ControllerEvent.{ControllerEvent}
use Rattle.ccan_endless.specs.declared.chip.ControllerStep.TheVariants as step
use Rattle.ccan_endless.specs.declared.controller_changed.ControllerBusy.{ControllerBusy}
use Rattle.ccan_endless.specs.declared.controller_changed.ControllerChanged.{ControllerChanged}
use Rattle.ccan_endless.specs.Chip.{ChipHistory, ram_of, step_at, steps_of}
use Rattle.ccan_calls.specs.Process.{Act, Attempts, ChangesController, InsistsOnChange, Looks, LooksAtController, Out, Pictures}

-- the newest first, here and below: this many looks at an object
abbrev pub AreLooks : PortName → ℕ → ℕ → List Event → Type 0
AreLooks port object zero own = own ≡ []
AreLooks port object (suc n) own =
    (shown : Record) × (earlier : List Event) × (own ≡ look_at port object shown ∷ earlier) × AreLooks port object n earlier

-- an attempt: looks, one for each try; and if the last one showed a record that the change fits, the change of that record
abbrev pub AreTries : Terms → ℕ → ℕ → Change → Attempted → List Event → Type 0
AreTries terms tries object change (Made before after) own =
    (lost : ℕ) × (lost < tries) × (earlier : List Event) × AreLooks terms.port object lost earlier
    × (own ≡ change_at terms.port object change before ∷ look_at terms.port object before ∷ earlier)
AreTries terms tries object change (Unfit shown) own =
    (lost : ℕ) × (lost < tries) × (earlier : List Event) × AreLooks terms.port object lost earlier
    × (own ≡ look_at terms.port object shown ∷ earlier)
AreTries terms tries object change GaveUp own = AreLooks terms.port object tries own
AreTries terms tries object change WasSpent own = own ≡ []

-- so many turns, each a look at every object
abbrev pub AreTurns : Terms → ℕ → List Event → Type 0
AreTurns terms zero own = own ≡ []
AreTurns terms (suc n) own =
    (last : List Event) × (earlier : List Event) × (own ≡ last ++ earlier)
    × LooksInTurn terms (objects_in terms.profile) last × AreTurns terms n earlier

-- a picture: as many turns as were lost to changes of other ports, and one more
abbrev pub ArePictured : Terms → List Event → Type 0
ArePictured terms own = (lost : ℕ) × (lost ≤ 2 * terms.quota) × AreTurns terms (suc lost) own

-- the port's steps in an act at objects
abbrev pub StepsAtObjects : Terms → ℕ → (act : Act) → Out act → List Event → Type 0
StepsAtObjects terms tries (Looks object) shown own = own ≡ look_at terms.port object shown ∷ []
StepsAtObjects terms tries (Attempts object change) end own = AreTries terms tries object change end own
StepsAtObjects terms tries Pictures shown own = ArePictured terms own
StepsAtObjects terms tries act out own = own ≡ []

-- a change of the controller is one step, if it is made
abbrev pub ChangeSteps : PortName → ControllerChange → Result ControllerChanged ControllerBusy → List ControllerEvent → Type 0
ChangeSteps port change (Ok made) own = own ≡ step_at port (step.Make change) made.before ∷ []
ChangeSteps port change (Err lost) own = own ≡ []

-- and at the controller
abbrev pub StepsAtController : PortName → (act : Act) → Out act → List ControllerEvent → Type 0
StepsAtController port LooksAtController found own = own ≡ step_at port step.Look found ∷ []
StepsAtController port (ChangesController change) outcome own = ChangeSteps port change outcome own
StepsAtController port (InsistsOnChange change) outcome own = ChangeSteps port change outcome own
StepsAtController port act out own = own ≡ []

-- the port's part of what an act added
pub record HasSteps (terms : Terms) (tries : ℕ) (act : Act) (out : Out act) (added : ChipHistory) : Type 0 where
  pub at_objects : StepsAtObjects terms tries act out (events_of terms.port (ram_of added))
  pub at_controller : StepsAtController terms.port act out (steps_of terms.port added)
