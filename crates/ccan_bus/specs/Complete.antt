-- The memory steps that a decision of a round calls for, and the end of the round: its answer, and which step was refused.
-- Source: C_CAN User's Manual 1.2, section 4.2 and "Disabled Automatic Retransmission"; what a refused step leaves is this
-- project's own.
use Rattle.std.specs.Prelude.{ℕ, ◌≡◌, List, [], ◌++◌, Option, Some, None, Result, Ok, Err}
use Rattle.ccan_object.specs.declared.record.Record.{Record}
use Rattle.ccan_accept.specs.declared.frame.Frame.{Frame}
use Rattle.ccan_ram.specs.declared.change.Change.TheVariants as change
use Rattle.ccan_ram.specs.declared.change.Changed.TheVariants.{Done}
use Rattle.ccan_ram.specs.declared.change.Refused.{Refused}
use Rattle.ccan_ram.specs.declared.change.Refused.TheVariants.{Busy, Spent}
use Rattle.ccan_ram.specs.declared.event.Event.{Event}
use Rattle.ccan_ram.specs.declared.sending.Sending.{Sending}
use Rattle.ccan_ram.specs.Sending.{finish_by}
use Rattle.ccan_ram.specs.Terms.{Terms}
use Rattle.ccan_ram.specs.Attempt.{Attempt}
use Rattle.ccan_handler.specs.declared.scan.Stored.{Stored}
use Rattle.ccan_handler.specs.declared.scan.ScanRefused.{ScanRefused}
use Rattle.ccan_handler.specs.Scan.{Scans}
use Rattle.ccan_bus.specs.declared.answer.RoundAnswer.{RoundAnswer}
use Rattle.ccan_bus.specs.declared.answer.RoundAnswer.TheVariants as answer
use Rattle.ccan_bus.specs.declared.decision.Decision.{Decision}
use Rattle.ccan_bus.specs.declared.decision.Decision.TheVariants as decision
use Rattle.ccan_bus.specs.declared.memory_step.MemoryStep.{MemoryStep}
use Rattle.ccan_bus.specs.declared.memory_step.MemoryStep.TheVariants.{Finish, Store}
use Rattle.ccan_bus.specs.declared.round_end.RoundEnd.{RoundEnd}

-- an object is finished, as it was started, or that is refused
abbrev pub Finishes : Terms → Sending → ℕ → List Event → List Event → ℕ → Result Record Refused → Type 0
Finishes terms sending tries seen added object (Ok finished) =
    (before : Record) × (number : ℕ)
    × Attempt terms object (finish_by sending) tries seen added (Ok (Done before finished number))
Finishes terms sending tries seen added object (Err why) = Attempt terms object (finish_by sending) tries seen added (Err why)

-- ---- the ends

-- no step was refused
abbrev pub ended : RoundAnswer → RoundEnd
ended reply = record { answer = reply; refused = None }

-- this step was refused at an object
abbrev pub refusal_at : ℕ → Refused → RoundAnswer
refusal_at object (Busy told now) = answer.Busy object
refusal_at object Spent = answer.Spent object

abbrev pub refused_at : MemoryStep → ℕ → Refused → RoundEnd
refused_at step object why = record { answer = refusal_at object why; refused = Some step }

abbrev pub end_of_finish : ℕ → Result Record Refused → RoundEnd
end_of_finish object (Ok finished) = ended (answer.Sent object finished)
end_of_finish object (Err why) = refused_at Finish object why

abbrev pub end_of_receipt : Result (Option Stored) ScanRefused → RoundEnd
end_of_receipt (Ok (Some stored)) = ended (answer.Received (Some (stored.object, stored.after)))
end_of_receipt (Ok None) = ended (answer.Received None)
end_of_receipt (Err refused) = refused_at Store refused.at refused.why

abbrev pub end_of_loop : ℕ → Record → Result (Option Stored) ScanRefused → RoundEnd
end_of_loop object finished (Ok (Some stored)) =
    ended (answer.Looped object finished (Some (stored.object, stored.after)))
end_of_loop object finished (Ok None) = ended (answer.Looped object finished None)
end_of_loop object finished (Err refused) = refused_at Store refused.at refused.why

-- ---- in loop back mode

-- the finish is refused
pub record StopsAtFinish (terms : Terms) (sending : Sending) (tries : ℕ) (seen added : List Event) (object : ℕ)
    (end : RoundEnd) : Type 0 where
  pub why : Refused
  pub finish : Attempt terms object (finish_by sending) tries seen added (Err why)
  pub told : end ≡ refused_at Finish object why

-- the finish is made, and then a scan
pub record FinishesAndScans (terms : Terms) (sending : Sending) (tries : ℕ) (seen added : List Event) (object : ℕ)
    (frame : Frame) (end : RoundEnd) : Type 0 where
  pub finished : Record
  pub first : List Event
  pub last : List Event
  pub whole : added ≡ last ++ first
  pub finish : Finishes terms sending tries seen first object (Ok finished)
  pub outcome : Result (Option Stored) ScanRefused
  pub scan : Scans terms (change.Store frame) 1 tries (first ++ seen) last outcome
  pub told : end ≡ end_of_loop object finished outcome

pub data TakesBack (terms : Terms) (sending : Sending) (tries : ℕ) (seen added : List Event) (object : ℕ) (frame : Frame)
    (end : RoundEnd) : Type 0 where
  Stops : StopsAtFinish terms sending tries seen added object end → TakesBack terms sending tries seen added object frame end
  Scanned : FinishesAndScans terms sending tries seen added object frame end
      → TakesBack terms sending tries seen added object frame end

-- ---- the steps of a decision

-- none is due
abbrev pub NoStep : RoundAnswer → List Event → RoundEnd → Type 0
NoStep reply added end = (added ≡ []) × (end ≡ ended reply)

abbrev pub Completes : Terms → Sending → ℕ → List Event → List Event → Decision → RoundEnd → Type 0
Completes terms sending tries seen added decision.Idle end = NoStep answer.Idle added end
Completes terms sending tries seen added decision.Collision end = NoStep answer.Collision added end
Completes terms sending tries seen added (decision.Fault winner frame) end = NoStep answer.Fault added end
Completes terms sending tries seen added (decision.NoAck winner frame) end = NoStep answer.NoAck added end
Completes terms sending tries seen added (decision.Passed winner frame) end = NoStep answer.Passed added end
Completes terms sending tries seen added (decision.Finish object frame) end =
    (outcome : Result Record Refused) × Finishes terms sending tries seen added object outcome
    × (end ≡ end_of_finish object outcome)
Completes terms sending tries seen added (decision.Receipt winner frame) end =
    (outcome : Result (Option Stored) ScanRefused)
    × Scans terms (change.Store frame) 1 tries seen added outcome × (end ≡ end_of_receipt outcome)
Completes terms sending tries seen added (decision.LoopBack object frame) end =
    TakesBack terms sending tries seen added object frame end
