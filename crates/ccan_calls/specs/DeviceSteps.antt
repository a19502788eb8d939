-- What a process asks of a chip of one thread: a step for each act at the chip, and what it is answered. Source: this project's own.
use Rattle.std.specs.Prelude.{ℕ, ◌≡◌, List, [], ◌∷◌, ◌++◌, Result, Ok, Err}
use Rattle.ccan_confine.specs.declared.controller_change.ControllerChange.TheVariants.{Join}
use Rattle.ccan_process.specs.Act.{Attempted, GaveUp, Made, Unfit, WasSpent}
use Rattle.ccan_process.specs.Process.{Does, Ended}
use Rattle.ccan_endless.specs.declared.controller_changed.ControllerBusy.{ControllerBusy}
use Rattle.ccan_endless.specs.declared.controller_changed.ControllerChanged.{ControllerChanged}
use Rattle.ccan_device.specs.declared.answer.ChipAnswer.{ChipAnswer}
use Rattle.ccan_device.specs.declared.answer.ChipAnswer.TheVariants as answer
use Rattle.ccan_device.specs.declared.operation.ChipOperation.{ChipOperation}
use Rattle.ccan_device.specs.declared.operation.ChipOperation.TheVariants as operation
use Rattle.ccan_device.specs.ChipSteps.{pictured}
use Rattle.ccan_calls.specs.Answer.{Answer, Place}
use Rattle.ccan_calls.specs.Process.{Act, Attempts, ChangesController, Decides, Heeds, InsistsOnChange, LetsOthersAct, Looks, LooksAtController, Notes, Offers, Out, Pauses, Pictures, Process, Recalls}
use Rattle.ccan_calls.specs.Runs.{IsDecided, IsLineOf}
use Rattle.ccan_calls.specs.ThreadProcess.{AreAnswered, ThreadEnd}

-- what is asked for, and the answer
pub record DeviceStep : Type 0 where
  pub operation : ChipOperation
  pub answer : ChipAnswer

-- an attempt that was given up, or for which no change was left, was refused
abbrev pub attempt_answer : Attempted → ChipAnswer
attempt_answer (Made before after) = answer.Made before after
attempt_answer (Unfit shown) = answer.Unfit shown
attempt_answer GaveUp = answer.Refused
attempt_answer WasSpent = answer.Refused

abbrev pub change_answer : Result ControllerChanged ControllerBusy → ChipAnswer
change_answer (Ok made) = answer.Changed made.before made.after
change_answer (Err busy) = answer.Refused

-- an act at the chip is one step, by what comes of it; any other is none
abbrev pub device_steps : (act : Act) → Out act → List DeviceStep
device_steps (Looks object) shown = record { operation = operation.Look object; answer = answer.Shown shown } ∷ []
device_steps (Attempts object change) end =
    record { operation = operation.Attempt object change; answer = attempt_answer end } ∷ []
device_steps Pictures shown = record { operation = operation.Picture; answer = pictured shown } ∷ []
device_steps LooksAtController found =
    record { operation = operation.LookAtController; answer = answer.Found found } ∷ []
device_steps (ChangesController change) outcome =
    record { operation = operation.ChangeController change; answer = change_answer outcome } ∷ []
device_steps (InsistsOnChange change) outcome =
    record { operation = operation.ChangeController change; answer = change_answer outcome } ∷ []
device_steps Recalls out = []
device_steps Pauses out = []
device_steps LetsOthersAct out = []
device_steps (Offers sends fault) out = []
device_steps (Decides line past) out = []
device_steps Notes out = []
device_steps (Heeds told) out = []

-- what other nodes offer is their line, and a round is decided as the frames contend
abbrev pub CanComeOf : (act : Act) → Out act → Type 0
CanComeOf (Offers sends fault) line = IsLineOf sends fault line
CanComeOf (Decides line past) decided = IsDecided line past decided
CanComeOf act out = Unit {0}

-- on its way to this result a process asks for these steps, the newest first
abbrev pub AsksFor : {A : Type 0} → Process A → List DeviceStep → A → Type 0
AsksFor (Ended end) steps result = (steps ≡ []) × (result ≡ end)
AsksFor (Does act next) steps result =
    (out : Out act) × CanComeOf act out × (later : List DeviceStep) × (steps ≡ later ++ device_steps act out)
    × AsksFor (next out) later result

-- the process of a thread's calls asks for these steps, and the calls got their answers
pub record CallsAskFor {Call State : Type 0} (code : Call → ℕ) (place : Call → Place) (calls : List Call)
    (process : Process (ThreadEnd State)) (steps : List DeviceStep) : Type 0 where
  pub answers : List Answer
  pub left : State
  pub answered : AreAnswered code place calls answers
  pub asks : AsksFor process steps (answers, left)

-- no step of these was refused, except that the bus's port may have failed to join a controller
abbrev pub NoneRefused : List DeviceStep → Type 0
NoneRefused [] = Unit {0}
NoneRefused (step ∷ earlier) =
    (step.answer ≡ answer.Refused → step.operation ≡ operation.ChangeController Join) × NoneRefused earlier
