-- A round: if a step was refused, or the controller's event was lost, its code is that for busy or for spent.
use Rattle.std.proofs.Common.{ℕ, Option, Some, None, Ok, Err, inl, inr, refl, if◌then◌else◌}
use Rattle.ccan_object.specs.declared.profile.Profile.{Profile}
use Rattle.ccan_object.specs.declared.record.Record.{Record}
use Rattle.ccan_accept.specs.declared.frame.Frame.{Frame}
use Rattle.ccan_confine.specs.declared.bus_event.BusEvent.{BusEvent}
use Rattle.ccan_confine.specs.declared.controller_change.ControllerChange.TheVariants.{Frame as FrameEvent}
use Rattle.ccan_confine.specs.declared.status_event.StatusEvent.{StatusEvent}
use Rattle.ccan_ram.specs.declared.sending.Sending.{Sending}
use Rattle.ccan_ram.specs.declared.sending.Sending.TheVariants.{UntilSent}
use Rattle.ccan_ram.specs.Sending.{finish_by}
use Rattle.ccan_bus.specs.declared.answer.LoadAnswer.TheVariants as load
use Rattle.ccan_bus.specs.declared.answer.RoundAnswer.{RoundAnswer}
use Rattle.ccan_bus.specs.declared.answer.RoundAnswer.TheVariants as answer
use Rattle.ccan_bus.specs.declared.decision.Decision.{Decision}
use Rattle.ccan_bus.specs.declared.decision.Decision.TheVariants as decision
use Rattle.ccan_bus.specs.declared.round_end.RoundEnd.{RoundEnd}
use Rattle.ccan_bus.specs.declared.round_line.RoundLine.{RoundLine}
use Rattle.ccan_bus.specs.Past.{BusPast}
use Rattle.ccan_bus.specs.Round.{refusal_of_round}
use Rattle.ccan_process.specs.Act.{Attempted, GaveUp, Made, Unfit, WasSpent}
use Rattle.ccan_line.specs.declared.line_answer.LineAnswer.TheVariants as line_answer
use Rattle.ccan_c.specs.Answer.{code_of}
use Rattle.ccan_c.specs.Codes.{busy}
use Rattle.ccan_c.specs.Outcome.{code_of_round, is_lost}
use Rattle.ccan_calls.specs.LoadProcess.{LoadEnd, load_on}
use Rattle.ccan_calls.specs.Process.{ending}
use Rattle.ccan_calls.specs.RoundProcess.{EventEnd, Played, RoundTold, completes, contend, finish_end, loop_end, makes_event, played, plays, plays_on, receipt_end, receives_own, round_told, rounds}
use Rattle.ccan_calls.specs.StoreProcess.{Filtered, GaveUpAt, NoneAccepts, SpentAt, StoredAt, store_first}
use Rattle.ccan_calls.proofs.HostCallsReport.{IsBusyCode}
use Rattle.ccan_calls.proofs.LoadsReport.{IsBusyStore, LoadsBusy, arrived_reports, load_reports, store_reports}
use Rattle.ccan_calls.proofs.Reporting.{EndsBad, IsGivenUp, IsLost, Reports, attempt_reports, change_reports, end_reports, so_bad, then_reports}

-- ---- the part of the objects

-- a finish or a store was given up, or no change was left for it
abbrev pub IsBusyRound : RoundAnswer → Type 0
IsBusyRound (answer.Busy object) = Unit {0}
IsBusyRound (answer.Spent object) = Unit {0}
IsBusyRound told = ⊥

abbrev pub RoundIsBusy : RoundEnd → Type 0
RoundIsBusy end = IsBusyRound end.answer

lost_finish : (object : ℕ) (end : Attempted) → IsLost end → RoundIsBusy (finish_end object end)
lost_finish object (Made before after) lost = absurd lost
lost_finish object (Unfit shown) lost = absurd lost
lost_finish object GaveUp lost = tt
lost_finish object WasSpent lost = tt

lost_receipt : (end : Filtered) → IsBusyStore end → RoundIsBusy (receipt_end end)
lost_receipt NoneAccepts is = absurd is
lost_receipt (StoredAt object after) is = absurd is
lost_receipt (GaveUpAt object) is = tt
lost_receipt (SpentAt object) is = tt

lost_loop : (object : ℕ) (finished : Record) (end : Filtered) → IsBusyStore end → RoundIsBusy (loop_end object finished end)
lost_loop object finished NoneAccepts is = absurd is
lost_loop object finished (StoredAt at after) is = absurd is
lost_loop object finished (GaveUpAt at) is = tt
lost_loop object finished (SpentAt at) is = tt

module _ (profile : Profile) where
  module _ (object : ℕ) (frame : Frame) where
    lost_own : (end : Attempted) → IsLost end → EndsBad RoundIsBusy (receives_own profile object frame end)
    lost_own (Made before after) lost = absurd lost
    lost_own (Unfit shown) lost = absurd lost
    lost_own GaveUp lost = tt
    lost_own WasSpent lost = tt

    own_received : (finished : Record) → Reports RoundIsBusy (ending (store_first profile frame) (loop_end object finished))
    own_received finished =
        end_reports IsBusyStore RoundIsBusy (loop_end object finished) (store_first profile frame) (lost_loop object finished)
        (store_reports frame profile)

    own_reports : (end : Attempted) → Reports RoundIsBusy (receives_own profile object frame end)
    own_reports (Made before after) = own_received after
    own_reports (Unfit shown) = own_received shown
    own_reports GaveUp = tt
    own_reports WasSpent = tt

  pub complete_reports : (sending : Sending) (decided : Decision) → Reports RoundIsBusy (completes profile sending decided)
  complete_reports sending decision.Idle = λ paused. (inl tt, tt)
  complete_reports sending decision.Collision = λ paused. (inl tt, tt)
  complete_reports sending (decision.Fault winner frame) = λ paused. (inl tt, tt)
  complete_reports sending (decision.NoAck winner frame) = λ paused. (inl tt, tt)
  complete_reports sending (decision.Passed winner frame) = λ paused. (inl tt, tt)
  complete_reports sending (decision.Finish object frame) =
      λ end. (attempt_reports object (finish_by sending) end (lost_finish object end), tt)
  complete_reports sending (decision.Receipt winner frame) =
      end_reports IsBusyStore RoundIsBusy receipt_end (store_first profile frame) lost_receipt (store_reports frame profile)
  complete_reports sending (decision.LoopBack object frame) =
      λ end. (attempt_reports object (finish_by sending) end (lost_own object frame end), own_reports object frame end)

-- ---- a load, and what follows it

abbrev PlayedBusy : Played → Type 0
PlayedBusy end = RoundIsBusy end.report.end

module _ (profile : Profile) (line : RoundLine) where
  contend_reports : (loading : LoadEnd) → Reports PlayedBusy (contend profile line loading)
  contend_reports loading =
      λ decided. (
        inl tt,
        end_reports RoundIsBusy PlayedBusy (played loading decided) (completes profile UntilSent decided.decision) (λ end is. is)
            (complete_reports profile UntilSent decided.decision),
      )

  on_reports : (loading : LoadEnd) (refusal : Option RoundAnswer) → Reports PlayedBusy (plays_on profile line loading refusal)
  on_reports loading (Some refusal) = λ paused. (inl tt, tt)
  on_reports loading None = contend_reports loading

  -- a load that was refused ends the round so
  lost_load : (loading : LoadEnd) → LoadsBusy loading
      → EndsBad PlayedBusy (plays_on profile line loading (refusal_of_round loading.0))
  lost_load (load.Busy object, past) is = λ paused. tt
  lost_load (load.Spent object, past) is = λ paused. tt
  lost_load (told, past) is = absurd is

  plays_report : (past : BusPast) → Reports PlayedBusy (plays profile line past)
  plays_report past =
      then_reports LoadsBusy PlayedBusy (λ loading. plays_on profile line loading (refusal_of_round loading.0))
      (load_on profile past) lost_load (λ loading. on_reports loading (refusal_of_round loading.0)) (load_reports past profile)

-- ---- the part of the controller

-- the event was to be made, and was given up
abbrev pub EventIsLost : EventEnd → Type 0
EventIsLost None = ⊥
EventIsLost (Some outcome) = IsGivenUp outcome

pub event_reports : (own : Option (BusEvent × StatusEvent)) → Reports EventIsLost (makes_event own)
event_reports None = λ acted. (inl tt, tt)
event_reports (Some own) =
    λ outcome. (change_reports (FrameEvent own.0 own.1) outcome (λ lost. lost), tt)

-- the code of what came of both parts
abbrev pub code_with : EventEnd → RoundAnswer → ℕ
code_with noted told = if is_lost noted then busy else code_of (line_answer.Round told)

reply_code : (told : RoundAnswer) → IsBusyRound told → IsBusyCode (code_of (line_answer.Round told))
reply_code (answer.Busy object) is = inl refl
reply_code (answer.Spent object) is = inr refl
reply_code told is = absurd is

pub refused_code : (told : RoundAnswer) → IsBusyRound told → (noted : EventEnd) → IsBusyCode (code_with noted told)
refused_code told is None = reply_code told is
refused_code told is (Some (Ok made)) = reply_code told is
refused_code told is (Some (Err lost)) = inl refl

pub lost_code : (told : RoundAnswer) (noted : EventEnd) → EventIsLost noted → IsBusyCode (code_with noted told)
lost_code told None is = absurd is
lost_code told (Some (Ok made)) is = absurd is
lost_code told (Some (Err lost)) is = inl refl

-- ---- a round

abbrev pub RoundCodeIsBusy : RoundTold → Type 0
RoundCodeIsBusy end = IsBusyCode (code_of_round end.0)

pub rounds_report : (profile : Profile) (line : RoundLine) (past : BusPast)
    → Reports RoundCodeIsBusy (rounds profile line past)
rounds_report profile line past =
    arrived_reports RoundCodeIsBusy past _
    (λ found here. then_reports PlayedBusy RoundCodeIsBusy (λ end. ending (makes_event end.own) (round_told found end))
    (plays profile line here)
    (λ end is. so_bad RoundCodeIsBusy (round_told found end) (makes_event end.own) (refused_code end.report.end.answer is))
    (λ end. end_reports EventIsLost RoundCodeIsBusy (round_told found end) (makes_event end.own)
    (lost_code end.report.end.answer) (event_reports end.own)) (plays_report profile line here))
