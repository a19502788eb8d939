-- A call by which a chip takes part in a frame, or powers down in between: if a step was refused but a join, it gets the code for
-- busy or for spent.
use Rattle.std.proofs.Common.{ℕ, ◌==◌, Bool, true, false, Option, Some, None, Result, Ok, Err, is_some, nat_lt, inl, inr, refl}
use Rattle.ccan_object.specs.declared.profile.Profile.{Profile}
use Rattle.ccan_accept.specs.declared.frame.Frame.{Frame}
use Rattle.ccan_confine.specs.declared.bus_event.BusEvent.{BusEvent}
use Rattle.ccan_confine.specs.declared.controller.Controller.{Controller}
use Rattle.ccan_confine.specs.declared.controller_change.ControllerChange.TheVariants.{Frame as FrameEvent, PowerDown}
use Rattle.ccan_confine.specs.declared.status_event.StatusEvent.{StatusEvent}
use Rattle.ccan_ram.specs.declared.sending.Sending.{Sending}
use Rattle.ccan_ram.specs.Terms.{Terms}
use Rattle.ccan_bus.specs.declared.answer.LoadAnswer.{LoadAnswer}
use Rattle.ccan_bus.specs.declared.answer.LoadAnswer.TheVariants as load
use Rattle.ccan_process.specs.Process.{Does, Ended}
use Rattle.ccan_endless.specs.declared.controller_changed.ControllerBusy.{ControllerBusy}
use Rattle.ccan_endless.specs.declared.controller_changed.ControllerChanged.{ControllerChanged}
use Rattle.ccan_wire.specs.declared.flaw.Flaw.{Flaw}
use Rattle.ccan_wire.specs.declared.wire.Wire.{Wire}
use Rattle.ccan_wire.specs.Wire.{start_of}
use Rattle.ccan_station.specs.declared.ended.Ended.{Ended as EndedPart}
use Rattle.ccan_station.specs.declared.loaded.Loaded.{Loaded}
use Rattle.ccan_station.specs.Station.{due, frame_won, loaded_before, may_send, role_now, sending_now, sent_as, still_loaded}
use Rattle.ccan_registers.specs.Frames.{StationState}
use Rattle.ccan_registers.specs.PowerDown.{is_to_power_down, power_told}
use Rattle.ccan_c.specs.declared.shown_wire.ShownWire.{ShownWire}
use Rattle.ccan_c.specs.Finished.{code_of_end, event_in}
use Rattle.ccan_c.specs.FrameCall.{BusState, code_of_change}
use Rattle.ccan_c.specs.Wire.{flaw_in, is_flaw, is_wire, most_members, wire_in}
use Rattle.ccan_calls.specs.FrameAsk.{FrameAsk, begin, stay, finish, retry, power_down}
use Rattle.ccan_calls.specs.FrameProcess.{FrameLoad, FrameStart, ends_as, ends_frame, finishes, frame_end, frame_process, loads_frame, own_on, part_told, power_end, powers_down, powers_down_by, powers_down_idle, retries, start_end, start_with, started_by, starts_frame}
use Rattle.ccan_calls.specs.LoadProcess.{arrives, start_first}
use Rattle.ccan_calls.specs.Process.{ChangesController, ending}
use Rattle.ccan_calls.specs.RoundProcess.{completes, makes_event}
use Rattle.ccan_calls.proofs.HostCallsReport.{CodeIsBusy, IsBusyCode, access_busy}
use Rattle.ccan_calls.proofs.LoadsReport.{IsBusyLoad, arrives_report, first_reports}
use Rattle.ccan_calls.proofs.RegistersReport.{IsBusy}
use Rattle.ccan_calls.proofs.Reporting.{IsGivenUp, Reports, change_reports, end_reports, found_answered, if_reports, option_reports, picture_answered, so_bad, then_reports}
use Rattle.ccan_calls.proofs.RoundsReport.{EventIsLost, RoundIsBusy, complete_reports, event_reports, lost_code, refused_code}

-- ---- the start of a frame

abbrev LoadIsBusy : FrameLoad → Type 0
LoadIsBusy end = IsBusyLoad end.0

abbrev StartIsBusy : FrameStart → Type 0
StartIsBusy end = IsBusyLoad end.1.0

started_busy : (sending : Sending) (told : LoadAnswer) → IsBusyLoad told → LoadIsBusy (started_by sending told)
started_busy sending (load.Busy object) is = tt
started_busy sending (load.Spent object) is = tt
started_busy sending told is = absurd is

module _ (profile : Profile) where
  load_reports : (sends : Bool) (sending : Sending) (loaded : Option Loaded)
      → Reports LoadIsBusy (loads_frame profile sends sending loaded)
  load_reports false sending loaded = λ paused. (inl tt, tt)
  load_reports true sending (Some held) = λ paused. (inl tt, tt)
  load_reports true sending None =
      end_reports IsBusyLoad LoadIsBusy (started_by sending) (start_first profile sending) (started_busy sending)
      (first_reports sending profile)

  start_reports : (loaded : Option Loaded) → Reports StartIsBusy (starts_frame profile loaded)
  start_reports loaded =
      then_reports (λ looked. ⊥) StartIsBusy
      (λ looked. ending (loads_frame profile (may_send (role_now looked.1)) (sending_now looked.1)
      (loaded_before looked.0 loaded)) (start_with looked.1)) arrives (λ looked is. absurd is)
      (λ looked. end_reports LoadIsBusy StartIsBusy (start_with looked.1) _ (λ end is. is)
      (load_reports (may_send (role_now looked.1)) (sending_now looked.1) (loaded_before looked.0 loaded)))
      (arrives_report (λ looked. ⊥))

start_code : (old : BusState) (told : FrameStart) → StartIsBusy told → CodeIsBusy (start_end old told)
start_code old (found, (load.Busy object, loaded)) is = inl refl
start_code old (found, (load.Spent object, loaded)) is = inr refl
start_code old (found, (told, loaded)) is = absurd is

-- ---- its end

abbrev EndCodeIsBusy : EndedPart → Type 0
EndCodeIsBusy told = IsBusyCode (code_of_end told)

module _ (profile : Profile) where
  ends_report : (found : Controller) (own : Option (BusEvent × StatusEvent)) (loaded : Option Loaded) (won : Option Frame)
      → Reports EndCodeIsBusy (ends_as profile found own loaded won)
  ends_report found own loaded won =
      then_reports RoundIsBusy EndCodeIsBusy (λ end. ending (makes_event own) (part_told found own end))
      (completes profile (sent_as loaded) (due own loaded won))
      (λ end is. so_bad EndCodeIsBusy (part_told found own end) (makes_event own) (refused_code end.answer is))
      (λ end. end_reports EventIsLost EndCodeIsBusy (part_told found own end) (makes_event own) (lost_code end.answer)
      (event_reports own)) (complete_reports profile (sent_as loaded) (due own loaded won))

  frame_reports : (on : Wire) (place : ℕ) (flaw : Option Flaw) (station : StationState)
      → Reports EndCodeIsBusy (ends_frame profile on place flaw station)
  frame_reports on place flaw station =
      λ found. (
        inl (found_answered found),
        ends_report found (own_on on place flaw station found) (still_loaded found station.loaded) (frame_won (start_of on)),
      )

  finish_reports : (on : ShownWire) (place fault : ℕ) (old : BusState) → Reports CodeIsBusy (finishes profile on place fault old)
  finish_reports on place fault old =
      if_reports CodeIsBusy (is_wire on) _ _
      (if_reports CodeIsBusy (nat_lt place most_members) _ _
      (if_reports CodeIsBusy (is_flaw fault) _ _
      (end_reports EndCodeIsBusy CodeIsBusy (frame_end old) (ends_frame profile (wire_in on) place (flaw_in fault) old.station)
      (λ told is. is) (frame_reports (wire_in on) place (flaw_in fault) old.station)) tt) tt) tt

change_code : (outcome : Result ControllerChanged ControllerBusy) → IsGivenUp outcome → IsBusyCode (code_of_change outcome)
change_code (Ok made) lost = absurd lost
change_code (Err busy) lost = inl refl

retry_reports : (old : BusState) (own : BusEvent × StatusEvent) → Reports CodeIsBusy (retries own old)
retry_reports old own = λ outcome. (change_reports (FrameEvent own.0 own.1) outcome (change_code outcome), tt)

-- ---- power down

power_busy : (outcome : Result ControllerChanged ControllerBusy) → IsGivenUp outcome → IsBusy (power_told outcome)
power_busy (Ok made) lost = absurd lost
power_busy (Err busy) lost = tt

power_reports : Reports IsBusy (Does (ChangesController PowerDown) (λ outcome. Ended (power_told outcome)))
power_reports = λ outcome. (change_reports PowerDown outcome (power_busy outcome), tt)

idle_reports : (requests : ℕ) → Reports IsBusy (powers_down_idle requests)
idle_reports requests = if_reports IsBusy (requests == 0) _ _ power_reports tt

asked_reports : (wanted : Bool) (found : Controller) → Reports IsBusy (powers_down_by wanted found)
asked_reports true found = λ shown. (inl (picture_answered shown), idle_reports _)
asked_reports false found = tt

down_reports : (under_way : Bool) → Reports IsBusy (powers_down under_way)
down_reports true = tt
down_reports false = λ found. (inl (found_answered found), asked_reports (is_to_power_down found) found)

-- ---- all of them

pub frame_calls_report : (terms : Terms) (ask : FrameAsk) (old : BusState) → Reports CodeIsBusy (frame_process terms ask old)
frame_calls_report terms begin old =
    end_reports StartIsBusy CodeIsBusy (start_end old) (starts_frame terms.profile old.station.loaded) (start_code old)
    (start_reports terms.profile old.station.loaded)
frame_calls_report terms stay old = λ found. (inl (found_answered found), tt)
frame_calls_report terms (finish on place fault) old = finish_reports terms.profile on place fault old
frame_calls_report terms (retry lost) old = option_reports CodeIsBusy _ (event_in lost) _ (retry_reports old) tt
frame_calls_report terms power_down old =
    end_reports IsBusy CodeIsBusy (power_end old) (powers_down (is_some old.station.under_way)) (λ told. access_busy (Some told))
    (down_reports (is_some old.station.under_way))
