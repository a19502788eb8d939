-- A thread of whose calls none got the code for busy or for spent was refused nothing but a join.
use Rattle.std.proofs.Common.{ℕ, inl, inr, List, [], ◌∷◌, map, sym, ap, subst, ◌∙◌}
use Rattle.ccan_ram.specs.Terms.{Terms}
use Rattle.ccan_chip.specs.declared.map.Map.{Map}
use Rattle.ccan_c.specs.FrameCall.{BusState}
use Rattle.ccan_c.specs.HostCall.{code_got}
use Rattle.ccan_calls.specs.Answer.{Answer, CallProcess, Place}
use Rattle.ccan_calls.specs.BusCallProcess.{bus_process}
use Rattle.ccan_calls.specs.DeviceSteps.{AsksFor, DeviceStep, NoneRefused}
use Rattle.ccan_calls.specs.HostAsk.{asked_by, place_of}
use Rattle.ccan_calls.specs.HostCallProcess.{host_process}
use Rattle.ccan_calls.specs.Process.{ending}
use Rattle.ccan_calls.specs.Refusals.{BusCallsReportRefusals, HostCallsReportRefusals, NoneBusy}
use Rattle.ccan_calls.specs.ThreadProcess.{AreAnswered, OnBusAsk, ThreadEnd, answered_first, asked, asks_bus, asks_frame, code_of_call, on_bus_process, place_of_call, thread_process, with_station}
use Rattle.ccan_calls.proofs.Asking.{in_turn, of_end}
use Rattle.ccan_calls.proofs.BusCallsReport.{bus_reports}
use Rattle.ccan_calls.proofs.FramesReport.{frame_calls_report}
use Rattle.ccan_calls.proofs.HostCallsReport.{CodeIsBusy, host_reports}
use Rattle.ccan_calls.proofs.Reporting.{Reports, end_reports, none_of_both, none_refused}

module _ {Call Ask State : Type 0} (process : Ask → State → CallProcess State) (asks_of : Call → Ask) (code : Call → ℕ)
    (place : Call → Place) (reports : (ask : Ask) (state : State) → Reports CodeIsBusy (process ask state)) where
  -- if each call reports, so do all of them
  calls_report : (calls : List Call) (state : State) (steps : List DeviceStep) (answers : List Answer) (left : State)
      → AreAnswered code place calls answers → AsksFor (thread_process process (map asks_of calls) state) steps (answers, left)
      → NoneBusy code calls → NoneRefused steps
  calls_report [] state steps answers left got (none, is) fine = subst NoneRefused (sym none) tt
  calls_report (call ∷ calls) state steps [] left got asks fine = absurd got
  calls_report (call ∷ calls) state steps (answer ∷ answers) left (got, others) asks (not_busy, not_spent, fine) =
      let h = in_turn (λ one. ending (thread_process process (map asks_of calls) one.1) (answered_first one.0))
      (process (asks_of call) state) steps (answer ∷ answers, left) asks in
      let (rest, asks_rest, is) = of_end (answered_first h.between.0)
      (thread_process process (map asks_of calls) h.between.1) h.later (answer ∷ answers, left) h.ends in
      let (got_it, others_got) = subst (AreAnswered code place (call ∷ calls)) (ap (λ (e : ThreadEnd State). e.0) is)
      (got, others) in
      let not_bad : CodeIsBusy h.between → ⊥ = λ bad. elim bad [
        | inl is_busy ↦ not_busy (got_it.code_is ∙ is_busy)
        | inr is_spent ↦ not_spent (got_it.code_is ∙ is_spent)
      ] in
      subst NoneRefused (sym h.whole) (none_of_both h.later h.first
      (calls_report calls h.between.1 h.later rest.0 rest.1 others_got asks_rest fine)
      (none_refused CodeIsBusy (process (asks_of call) state) h.first h.between (reports (asks_of call) state) h.begins not_bad))

-- ---- the calls of a host

pub host_calls_report : HostCallsReportRefusals
host_calls_report terms layout calls own steps h fine =
    calls_report (host_process terms layout) asked_by code_got place_of (λ ask state. host_reports terms layout state ask) calls
    own steps h.answers h.left h.answered h.asks fine

-- ---- the calls of the bus

on_bus_reports : (terms : Terms) (layout : Map) (nodes : ℕ) (ask : OnBusAsk) (old : BusState)
    → Reports CodeIsBusy (on_bus_process terms layout nodes ask old)
on_bus_reports terms layout nodes (asks_bus ask) old =
    end_reports CodeIsBusy CodeIsBusy (with_station ask old.station) (bus_process terms layout nodes ask old.past) (λ end is. is)
    (bus_reports terms layout nodes old.past ask)
on_bus_reports terms layout nodes (asks_frame ask) old = frame_calls_report terms ask old

pub bus_calls_report : BusCallsReportRefusals
bus_calls_report terms layout nodes calls begun steps h fine =
    calls_report (on_bus_process terms layout nodes) asked code_of_call place_of_call (on_bus_reports terms layout nodes) calls
    begun steps h.answers h.left h.answered h.asks fine
