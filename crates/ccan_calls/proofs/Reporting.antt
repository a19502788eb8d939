-- Processes whose end says so if a step was refused.
use Rattle.std.proofs.Common.{ℕ, ◌⊎◌, inl, inr, Bool, true, false, List, [], ◌∷◌, ◌++◌, Option, Some, None, Result, Ok, Err, sym, subst, if◌then◌else◌}
use Rattle.std.specs.Option.{option_map_or}
use Rattle.ccan_object.specs.declared.record.Record.{Record}
use Rattle.ccan_confine.specs.declared.controller.Controller.{Controller}
use Rattle.ccan_confine.specs.declared.controller_change.ControllerChange.{ControllerChange}
use Rattle.ccan_ram.specs.declared.change.Change.{Change}
use Rattle.ccan_ram.specs.declared.handler_registers.HandlerRegisters.{HandlerRegisters}
use Rattle.ccan_process.specs.Act.{Attempted, GaveUp, Made, Unfit, WasSpent}
use Rattle.ccan_process.specs.Process.{Does, Ended, followed_by}
use Rattle.ccan_endless.specs.declared.controller_changed.ControllerBusy.{ControllerBusy}
use Rattle.ccan_endless.specs.declared.controller_changed.ControllerChanged.{ControllerChanged}
use Rattle.ccan_device.specs.declared.answer.ChipAnswer.{ChipAnswer}
use Rattle.ccan_device.specs.declared.answer.ChipAnswer.TheVariants as answer
use Rattle.ccan_device.specs.declared.operation.ChipOperation.{ChipOperation}
use Rattle.ccan_calls.specs.DeviceSteps.{AsksFor, DeviceStep, NoneRefused, device_steps}
use Rattle.ccan_calls.specs.Process.{Attempts, ChangesController, Looks, LooksAtController, Out, Pictures, Process, ending}

-- every end of the process is bad
abbrev pub EndsBad : {A : Type 0} → (A → Type 0) → Process A → Type 0
EndsBad bad (Ended end) = bad end
EndsBad bad (Does act next) = (out : Out act) → EndsBad bad (next out)

-- an act of the process was refused nothing, or every end after it is bad
abbrev pub Reports : {A : Type 0} → (A → Type 0) → Process A → Type 0
Reports bad (Ended end) = Unit {0}
Reports bad (Does act next) =
    (out : Out act) → (NoneRefused (device_steps act out) ⊎ EndsBad bad (next out)) × Reports bad (next out)

-- the steps of both parts
pub none_of_both : (later first : List DeviceStep) → NoneRefused later → NoneRefused first → NoneRefused (later ++ first)
none_of_both [] first none_later none_first = none_first
none_of_both (step ∷ earlier) first (fine, none_later) none_first =
    (fine, none_of_both earlier first none_later none_first)

module _ {A : Type 0} (bad : A → Type 0) where
  -- an end to which a process has come
  comes_bad : (process : Process A) (steps : List DeviceStep) (result : A) → EndsBad bad process → AsksFor process steps result
      → bad result
  comes_bad (Ended end) steps result ends (none, is) = subst bad (sym is) ends
  comes_bad (Does act next) steps result ends (out, can, later, whole, asks) =
      comes_bad (next out) later result (ends out) asks

  -- if that is not bad, no step was refused
  pub none_refused : (process : Process A) (steps : List DeviceStep) (result : A) → Reports bad process
      → AsksFor process steps result → (bad result → ⊥) → NoneRefused steps
  none_refused (Ended end) steps result reports (none, is) fine = subst NoneRefused (sym none) tt
  none_refused (Does act next) steps result reports (out, can, later, whole, asks) fine =
      let (one, rest) = reports out in
      let first : NoneRefused (device_steps act out) = elim one [
        | inl none ↦ none
        | inr ends ↦ absurd (fine (comes_bad (next out) later result ends asks))
      ] in
      subst NoneRefused (sym whole) (none_of_both later (device_steps act out)
      (none_refused (next out) later result rest asks fine) first)

-- ---- processes of processes

module _ {A B : Type 0} (bad : A → Type 0) (worse : B → Type 0) where
  -- one after another, if what follows a bad end ends badly
  bad_next : (next : A → Process B) (process : Process A) → ((end : A) → bad end → EndsBad worse (next end))
      → EndsBad bad process → EndsBad worse (followed_by process next)
  bad_next next (Ended end) passed ends = passed end ends
  bad_next next (Does act goes) passed ends = λ out. bad_next next (goes out) passed (ends out)

  -- one after another, if so, and if what follows reports too
  pub then_reports : (next : A → Process B) (process : Process A) → ((end : A) → bad end → EndsBad worse (next end))
      → ((end : A) → Reports worse (next end)) → Reports bad process → Reports worse (followed_by process next)
  then_reports next (Ended end) passed later reports = later end
  then_reports next (Does act goes) passed later reports =
      λ out.
      let (one, rest) = reports out in (
        elim one [ inl none ↦ inl none | inr ends ↦ inr (bad_next next (goes out) passed ends) ],
        then_reports next (goes out) passed later rest,
      )

  -- with a result by what came of it
  pub end_reports : (result : A → B) (process : Process A) → ((end : A) → bad end → worse (result end))
      → Reports bad process → Reports worse (ending process result)
  end_reports result process passed reports = then_reports (λ end. Ended (result end)) process passed (λ end. tt) reports

-- whatever came of it, if each result is bad
pub so_bad : {A B : Type 0} (worse : B → Type 0) (result : A → B) (process : Process A) → ((end : A) → worse (result end))
    → EndsBad worse (ending process result)
so_bad worse result (Ended end) each = each end
so_bad worse result (Does act goes) each = λ out. so_bad worse result (goes out) each

module _ {A : Type 0} (bad : A → Type 0) where
  -- either of two
  pub if_reports : (b : Bool) (process other : Process A) → Reports bad process → Reports bad other
      → Reports bad (if b then process else other)
  if_reports true process other reports others = reports
  if_reports false process other reports others = others

  -- by what is given, or another if nothing is
  pub option_reports : {T : Type 0} (process : T → Process A) (given : Option T) (other : Process A)
      → ((t : T) → Reports bad (process t)) → Reports bad other → Reports bad (option_map_or process given other)
  option_reports process (Some t) other reports others = reports t
  option_reports process None other reports others = others

-- ---- acts

-- an answer that is no refusal
abbrev NotRefused : ChipAnswer → Type 0
NotRefused answer.Refused = ⊥
NotRefused told = Unit {0}

-- a step with such an answer
answered : (operation : ChipOperation) (told : ChipAnswer) → NotRefused told
    → NoneRefused (record { operation = operation; answer = told } ∷ [])
answered operation told so = (λ is. absurd (subst NotRefused is so), tt)

-- a look at an object, a picture and a look at the controller are never refused
pub look_answered : (object : ℕ) (shown : Record) → NoneRefused (device_steps (Looks object) shown)
look_answered object shown = answered _ (answer.Shown shown) tt

pub picture_answered : (shown : HandlerRegisters) → NoneRefused (device_steps Pictures shown)
picture_answered shown = answered _ _ tt

pub found_answered : (found : Controller) → NoneRefused (device_steps LooksAtController found)
found_answered found = answered _ (answer.Found found) tt

-- an attempt that was given up, or for which no change was left
abbrev pub IsLost : Attempted → Type 0
IsLost (Made before after) = ⊥
IsLost (Unfit shown) = ⊥
IsLost GaveUp = Unit {0}
IsLost WasSpent = Unit {0}

-- an attempt is refused only if it was lost
pub attempt_reports : {Bad : Type 0} (object : ℕ) (change : Change) (end : Attempted) → (IsLost end → Bad)
    → NoneRefused (device_steps (Attempts object change) end) ⊎ Bad
attempt_reports object change (Made before after) lost = inl (answered _ (answer.Made before after) tt)
attempt_reports object change (Unfit shown) lost = inl (answered _ (answer.Unfit shown) tt)
attempt_reports object change GaveUp lost = inr (lost tt)
attempt_reports object change WasSpent lost = inr (lost tt)

-- a change of the controller that was given up
abbrev pub IsGivenUp : Result ControllerChanged ControllerBusy → Type 0
IsGivenUp (Ok made) = ⊥
IsGivenUp (Err lost) = Unit {0}

-- a change is refused only if it was given up
pub change_reports : {Bad : Type 0} (change : ControllerChange) (outcome : Result ControllerChanged ControllerBusy)
    → (IsGivenUp outcome → Bad) → NoneRefused (device_steps (ChangesController change) outcome) ⊎ Bad
change_reports change (Ok made) lost = inl (answered _ (answer.Changed made.before made.after) tt)
change_reports change (Err busy) lost = inr (lost tt)
