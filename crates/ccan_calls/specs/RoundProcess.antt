-- A round as a process: the port comes to the bus and loads what it may send, the frames contend, the objects have their part, and
-- last the controller has its event. Source: this project's own, after what a round of a chip comes to (C_CAN User's Manual 1.2,
-- section 4.2).
use Rattle.std.specs.Prelude.{ℕ, ◌&&◌, Bool, List, length, nat_le, Option, Some, None, Result}
use Rattle.std.specs.List.{list_all}
use Rattle.ccan_object.specs.declared.profile.Profile.{Profile}
use Rattle.ccan_object.specs.declared.record.Record.{Record}
use Rattle.ccan_accept.specs.declared.frame.Frame.{Frame}
use Rattle.ccan_confine.specs.declared.bus_event.BusEvent.{BusEvent}
use Rattle.ccan_confine.specs.declared.controller.Controller.{Controller}
use Rattle.ccan_confine.specs.declared.controller_change.ControllerChange.TheVariants.{Frame as FrameEvent}
use Rattle.ccan_confine.specs.declared.status_event.StatusEvent.{StatusEvent}
use Rattle.ccan_ram.specs.declared.sending.Sending.{Sending}
use Rattle.ccan_ram.specs.declared.sending.Sending.TheVariants.{UntilSent}
use Rattle.ccan_ram.specs.Sending.{finish_by}
use Rattle.ccan_bus.specs.declared.answer.RoundAnswer.{RoundAnswer}
use Rattle.ccan_bus.specs.declared.answer.RoundAnswer.TheVariants as answer
use Rattle.ccan_bus.specs.declared.decision.Decision.{Decision}
use Rattle.ccan_bus.specs.declared.decision.Decision.TheVariants as decision
use Rattle.ccan_bus.specs.declared.memory_step.MemoryStep.{MemoryStep}
use Rattle.ccan_bus.specs.declared.memory_step.MemoryStep.TheVariants.{Finish, Store}
use Rattle.ccan_bus.specs.declared.round_end.RoundEnd.{RoundEnd}
use Rattle.ccan_bus.specs.declared.round_line.RoundLine.{RoundLine}
use Rattle.ccan_bus.specs.declared.round_report.RoundReport.{RoundReport}
use Rattle.ccan_bus.specs.Complete.{ended}
use Rattle.ccan_bus.specs.Past.{BusPast}
use Rattle.ccan_bus.specs.Round.{refusal_of_round}
use Rattle.ccan_bus.specs.RoundLine.{sends_of}
use Rattle.ccan_bus.specs.RoundReport.{refused_start}
use Rattle.ccan_process.specs.Act.{Attempted, GaveUp, Made, Unfit, WasSpent}
use Rattle.ccan_process.specs.Process.{Does, Ended, followed_by}
use Rattle.ccan_chip.specs.declared.chip_report.ChipReport.{ChipReport}
use Rattle.ccan_endless.specs.declared.controller_changed.ControllerBusy.{ControllerBusy}
use Rattle.ccan_endless.specs.declared.controller_changed.ControllerChanged.{ControllerChanged}
use Rattle.ccan_c.specs.Settings.{is_from_one_to}
use Rattle.ccan_calls.specs.LoadProcess.{LoadEnd, arrives_and, load_on}
use Rattle.ccan_calls.specs.Process.{Attempts, Decided, Decides, InsistsOnChange, LetsOthersAct, Pauses, Process, ending}
use Rattle.ccan_calls.specs.StoreProcess.{Filtered, GaveUpAt, NoneAccepts, SpentAt, StoredAt, store_first}

-- ---- the steps at objects that a decision calls for

-- such a step was given up at an object, or refused since no change was left
abbrev pub gave_up : MemoryStep → ℕ → RoundEnd
gave_up step object = record { answer = answer.Busy object; refused = Some step }

abbrev pub was_spent : MemoryStep → ℕ → RoundEnd
was_spent step object = record { answer = answer.Spent object; refused = Some step }

-- none is due
abbrev pub no_step : RoundAnswer → Process RoundEnd
no_step reply = Does Pauses (λ paused. Ended (ended reply))

-- the object that was sent is finished as it was started, which fits every record
abbrev pub finish_end : ℕ → Attempted → RoundEnd
finish_end object (Made before after) = ended (answer.Sent object after)
finish_end object (Unfit shown) = ended (answer.Sent object shown)
finish_end object GaveUp = gave_up Finish object
finish_end object WasSpent = was_spent Finish object

-- the frame of another node is received
abbrev pub receipt_end : Filtered → RoundEnd
receipt_end NoneAccepts = ended (answer.Received None)
receipt_end (StoredAt object after) = ended (answer.Received (Some (object, after)))
receipt_end (GaveUpAt object) = gave_up Store object
receipt_end (SpentAt object) = was_spent Store object

-- in loop back mode: once its object is finished, the controller receives its own frame
abbrev pub loop_end : ℕ → Record → Filtered → RoundEnd
loop_end object finished NoneAccepts = ended (answer.Looped object finished None)
loop_end object finished (StoredAt at after) = ended (answer.Looped object finished (Some (at, after)))
loop_end object finished (GaveUpAt at) = gave_up Store at
loop_end object finished (SpentAt at) = was_spent Store at

abbrev pub receives_own : Profile → ℕ → Frame → Attempted → Process RoundEnd
receives_own profile object frame (Made before after) = ending (store_first profile frame) (loop_end object after)
receives_own profile object frame (Unfit shown) = ending (store_first profile frame) (loop_end object shown)
receives_own profile object frame GaveUp = Ended (gave_up Finish object)
receives_own profile object frame WasSpent = Ended (was_spent Finish object)

abbrev pub completes : Profile → Sending → Decision → Process RoundEnd
completes profile sending decision.Idle = no_step answer.Idle
completes profile sending decision.Collision = no_step answer.Collision
completes profile sending (decision.Fault winner frame) = no_step answer.Fault
completes profile sending (decision.NoAck winner frame) = no_step answer.NoAck
completes profile sending (decision.Passed winner frame) = no_step answer.Passed
completes profile sending (decision.Finish object frame) =
    Does (Attempts object (finish_by sending)) (λ end. Ended (finish_end object end))
completes profile sending (decision.Receipt winner frame) = ending (store_first profile frame) receipt_end
completes profile sending (decision.LoopBack object frame) =
    Does (Attempts object (finish_by sending)) (receives_own profile object frame)

-- ---- a load, and what follows it

-- what came of these: step by step, to the controller's registers, and to the bus
pub record Played : Type 0 where
  pub report : RoundReport
  pub own : Option (BusEvent × StatusEvent)
  pub after : BusPast

-- the load was refused, so no frame was on the bus
abbrev pub not_played : LoadEnd → RoundAnswer → Played
not_played (loading, past) refusal =
    record {
      report = record { loading = loading; decision = None; end = refused_start refusal };
      own = None;
      after = past;
    }

abbrev pub played : LoadEnd → Decided → RoundEnd → Played
played (loading, past) decided end =
    record {
      report = record { loading = loading; decision = Some decided.decision; end = end };
      own = decided.own;
      after = decided.after;
    }

-- the frames contend, and then the objects have their part
abbrev pub contend : Profile → RoundLine → LoadEnd → Process Played
contend profile line load =
    Does (Decides line load.1) (λ decided. ending (completes profile UntilSent decided.decision) (played load decided))

abbrev pub plays_on : Profile → RoundLine → LoadEnd → Option RoundAnswer → Process Played
plays_on profile line load (Some refusal) = Does Pauses (λ paused. Ended (not_played load refusal))
plays_on profile line load None = contend profile line load

abbrev pub plays : Profile → RoundLine → BusPast → Process Played
plays profile line past =
    followed_by (load_on profile past) (λ load. plays_on profile line load (refusal_of_round load.0))

-- ---- a round

-- how the event of a round was made at the controller, if there was one
abbrev pub EventEnd : Type 0
EventEnd = Option (Result ControllerChanged ControllerBusy)

-- as one change of the controller, with as many tries as a change may have
abbrev pub makes_event : Option (BusEvent × StatusEvent) → Process EventEnd
makes_event None = Does LetsOthersAct (λ acted. Ended None)
makes_event (Some own) = Does (InsistsOnChange (FrameEvent own.0 own.1)) (λ outcome. Ended (Some outcome))

abbrev pub RoundTold : Type 0
RoundTold = ChipReport × BusPast

abbrev pub round_told : Controller → Played → EventEnd → RoundTold
round_told found end noted = (record { found = found; report = end.report; own = end.own; noted = noted }, end.after)

abbrev pub rounds : Profile → RoundLine → BusPast → Process RoundTold
rounds profile line past =
    arrives_and past (λ found here.
    followed_by (plays profile line here) (λ end. ending (makes_event end.own) (round_told found end)))

-- ---- who may send

-- each sender is one of this many other nodes, and none sends twice
abbrev pub are_senders : ℕ → List (ℕ × Frame) → Bool
are_senders nodes sends =
    list_all (λ s. is_from_one_to nodes s.0 && nat_le (length (sends_of s.0 sends)) 1) sends
