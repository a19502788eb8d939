-- Where a port may be within a process, after a history in which other ports act too. Source: this project's own, over what acts
-- add to the history of a chip.
use Rattle.std.specs.Prelude.{ℕ, ◌≡◌, ◌⊎◌, false, [], ◌∷◌, ◌++◌}
use Rattle.ccan_object.specs.declared.record.Record.{Record}
use Rattle.ccan_confine.specs.declared.controller.Controller.{Controller}
use Rattle.ccan_ram.specs.declared.port.PortName.{PortName}
use Rattle.ccan_ram.specs.Attempt.{change_at, look_at}
use Rattle.ccan_ram.specs.Port.{same_port}
use Rattle.ccan_ram.specs.Terms.{Terms}
use Rattle.ccan_process.specs.Process.{Does, Ended}
use Rattle.ccan_endless.specs.declared.chip.ChipEvent.{ChipEvent}
use Rattle.ccan_endless.specs.declared.chip.ChipEvent.TheVariants.{OfController, OfRam}
use Rattle.ccan_endless.specs.declared.chip.ControllerStep.{ControllerStep}
use Rattle.ccan_endless.specs.declared.chip.ControllerStep.TheVariants as step
use Rattle.ccan_endless.specs.Chip.{ChipHistory, step_at}
use Rattle.ccan_c.specs.Step.{own_of, port_of_event}
use Rattle.ccan_calls.specs.Process.{Act, Attempts, ChangesController, Decides, Heeds, InsistsOnChange, LetsOthersAct, Looks, LooksAtController, Notes, Offers, Out, Pauses, Pictures, Process, Recalls}
use Rattle.ccan_calls.specs.Runs.{Acted, Runs}

-- ---- steps of an act

-- the port looks at an object
abbrev pub IsLookAt : PortName → ℕ → ChipEvent → Type 0
IsLookAt port object event = (shown : Record) × (event ≡ OfRam (look_at port object shown))

-- the port makes this step at the controller
abbrev pub IsStepAt : PortName → ControllerStep → ChipEvent → Type 0
IsStepAt port step event = (found : Controller) × (event ≡ OfController (step_at port step found))

-- a step that the port may make in an act
abbrev pub IsStepOf : PortName → Act → ChipEvent → Type 0
IsStepOf port (Looks object) event = IsLookAt port object event
IsStepOf port (Attempts object change) event =
    IsLookAt port object event ⊎ ((shown : Record) × (event ≡ OfRam (change_at port object change shown)))
IsStepOf port Pictures event = (object : ℕ) × IsLookAt port object event
IsStepOf port LooksAtController event = IsStepAt port step.Look event
IsStepOf port (ChangesController change) event = IsStepAt port (step.Make change) event
IsStepOf port (InsistsOnChange change) event = IsStepAt port (step.Make change) event
IsStepOf port Recalls event = ⊥
IsStepOf port Pauses event = ⊥
IsStepOf port LetsOthersAct event = ⊥
IsStepOf port (Offers sends fault) event = ⊥
IsStepOf port (Decides line past) event = ⊥
IsStepOf port Notes event = ⊥
IsStepOf port (Heeds told) event = ⊥

-- an event while the port is in an act: such a step, or another port's
abbrev pub IsEventOf : PortName → Act → ChipEvent → Type 0
IsEventOf port act event = IsStepOf port act event ⊎ (same_port (port_of_event event) port ≡ false)

-- these events are a beginning of an act, which began when this had been seen
pub record IsBegun (terms : Terms) (tries : ℕ) (act : Act) (seen part : ChipHistory) : Type 0 where
  pub later : ChipHistory
  pub out : Out act
  pub acted : Acted terms tries act seen (later ++ part) out

-- ---- the port within its process

-- what is left of the process, in the first act of which the port is, and what had been seen when that act began
pub record Stage (A : Type 0) : Type 0 where
  pub left : Process A
  pub seen : ChipHistory

-- where a port may be after a history: it begins with its process; the act that it is in goes on by an event, a step of that act or
-- another port's; the act ends, by what came of it; and after the end of the process other ports go on
pub data StandsAt {A : Type 0} (terms : Terms) (tries : ℕ) (process : Process A) (begun : ChipHistory)
    : ChipHistory → Stage A → Type 0 where
  Began : StandsAt terms tries process begun begun (record { left = process; seen = begun })
  ByEvent : (act : Act) → (next : Out act → Process A) → (seen part : ChipHistory) → (event : ChipEvent)
      → StandsAt terms tries process begun (part ++ seen) (record { left = Does act next; seen = seen })
      → IsEventOf terms.port act event → IsBegun terms tries act seen (event ∷ part)
      → StandsAt terms tries process begun (event ∷ (part ++ seen)) (record { left = Does act next; seen = seen })
  ByEnd : (act : Act) → (next : Out act → Process A) → (seen part : ChipHistory) → (out : Out act)
      → StandsAt terms tries process begun (part ++ seen) (record { left = Does act next; seen = seen })
      → Acted terms tries act seen part out
      → StandsAt terms tries process begun (part ++ seen) (record { left = next out; seen = part ++ seen })
  AfterEnd : (end : A) → (seen part : ChipHistory) → (event : ChipEvent) → same_port (port_of_event event) terms.port ≡ false
      → StandsAt terms tries process begun (part ++ seen) (record { left = Ended end; seen = seen })
      → StandsAt terms tries process begun (event ∷ (part ++ seen)) (record { left = Ended end; seen = seen })

-- the port has done its whole process, after which this had been seen; and then came only events of other ports
pub record HasDone {A : Type 0} (terms : Terms) (tries : ℕ) (process : Process A) (begun seen history : ChipHistory) (end : A)
    : Type 0 where
  pub added : ChipHistory
  pub is_seen : seen ≡ added ++ begun
  pub ran : Runs terms tries process begun added end
  pub more : ChipHistory
  pub whole : history ≡ more ++ seen
  pub others : own_of terms.port more ≡ []
