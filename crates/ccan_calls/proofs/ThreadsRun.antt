-- The calls on a handle, one after another, are one process.
use Rattle.std.proofs.Common.{ℕ, ◌≡◌, ◌↔◌, List, [], ◌∷◌, ◌++◌, map, refl, sym, ap, subst, ◌∙◌, append_assoc}
use Rattle.ccan_ram.specs.declared.port.PortName.TheVariants.{Bus}
use Rattle.ccan_ram.specs.Terms.{Terms}
use Rattle.ccan_bus.specs.declared.choice.Choice.TheVariants.{AtOnce}
use Rattle.ccan_bus.specs.Past.{BusPast}
use Rattle.ccan_endless.specs.Chip.{ChipHistory}
use Rattle.ccan_chip.specs.declared.map.Map.{Map}
use Rattle.ccan_registers.specs.Frames.{StationState}
use Rattle.ccan_c.specs.BusCall.{BusCall, BusCallMeans, code_got as code_on, station_after}
use Rattle.ccan_c.specs.BusCall as bus
use Rattle.ccan_c.specs.FrameCall.{BusState, CallOnBus, CallOnBusMeans, of_frames, of_rounds}
use Rattle.ccan_c.specs.HostCall.{HostCallMeans, code_got}
use Rattle.ccan_c.specs.Step.{CallsMean, Place as HandlePlace}
use Rattle.ccan_c.proofs.KeepsChoice.{calls_on_bus_keep}
use Rattle.ccan_calls.specs.Answer.{Answer, CallEnd, CallProcess, IsAnswered, Place}
use Rattle.ccan_calls.specs.BusAsk.{asked_on, place_on}
use Rattle.ccan_calls.specs.BusCallProcess.{bus_process}
use Rattle.ccan_calls.specs.HostAsk.{asked_by, place_of}
use Rattle.ccan_calls.specs.HostCallProcess.{host_process}
use Rattle.ccan_calls.specs.Laws.{BusThreadsAreProcesses, ComesTo, HostThreadsAreProcesses}
use Rattle.ccan_calls.specs.Process.{Process, ending}
use Rattle.ccan_calls.specs.Runs.{Runs}
use Rattle.ccan_calls.specs.ThreadProcess.{AreAnswered, ThreadComes, ThreadEnd, answered_first, asked, code_of_call, on_bus_process, place_of_call, station_left, thread_process, with_station}
use Rattle.ccan_calls.proofs.BusCallsRun.{bus_calls}
use Rattle.ccan_calls.proofs.FramesRun.{frame_calls}
use Rattle.ccan_calls.proofs.HostCallsRun.{host_calls}
use Rattle.ccan_calls.proofs.Processes.{ends_so, follow, follows}

-- ---- any call on the bus's handle

station_is : (call : BusCall) (old : StationState) → station_after call old ≡ station_left (asked_on call) (code_on call) old
station_is (bus.load result out) old = refl
station_is (bus.status result out) old = refl
station_is (bus.control sie eie result) old = refl
station_is (bus.init result) old = refl
station_is (bus.loop_back on result) old = refl
station_is (bus.recessive groups result out) old = refl
station_is (bus.interrupt result out) old = refl
station_is (bus.flags number result out) old = refl
station_is (bus.counters node result out) old = refl
station_is (bus.round offers number result out) old = refl
station_is (bus.read8 offset result out) old = refl
station_is (bus.write8 offset value result) old = refl
station_is (bus.read16 offset result out) old = refl
station_is (bus.write16 offset value result) old = refl
station_is (bus.read32 offset result out) old = refl
station_is (bus.write32 offset value result) old = refl
station_is (bus.line result out) old = refl
station_is (bus.tell _ result) old = refl
station_is (bus.heed _ result) old = refl

module _ (terms : Terms) (tries nodes : ℕ) (layout : Map) (call : BusCall) (old new : BusState) (seen added : ChipHistory)
    (is_bus : terms.port ≡ Bus) (at_once : old.past.choice ≡ AtOnce) where
  abbrev by_past : CallProcess BusPast
  by_past = bus_process terms layout nodes (asked_on call) old.past

  abbrev lifted : CallEnd BusPast → CallEnd BusState
  lifted = with_station (asked_on call) old.station

  abbrev Means : Type 0
  Means =
      BusCallMeans terms tries nodes layout call old.past seen added new.past × (new.station ≡ station_after call old.station)

  abbrev Lifted : Type 0
  Lifted = ComesTo terms tries (code_on call) (place_on call) (ending by_past lifted) seen added new

  end_is : (answer : Answer) → IsAnswered (code_on call) (place_on call) answer
      → station_after call old.station ≡ station_left (asked_on call) answer.code old.station
  end_is answer got =
      station_is call old.station ∙ ap (λ code. station_left (asked_on call) code old.station) got.code_is

  to_lifted : Means → Lifted
  to_lifted (means, station) =
      let (answer, got, runs) = (bus_calls terms tries nodes layout call old.past new.past seen added is_bus at_once).0 means in (
        answer,
        got,
        (ends_so terms tries lifted by_past seen added (answer, new)).1 (
          (answer, new.past),
          runs,
          λ i. (answer, record { past = new.past; station = (station ∙ end_is answer got) i }),
        ),
      )

  of_lifted : Lifted → Means
  of_lifted (answer, got, on) =
      let (end, runs, is) = (ends_so terms tries lifted by_past seen added (answer, new)).0 on in
      let one = ap (λ (e : CallEnd BusState). e.0) is in
      let left = ap (λ (e : CallEnd BusState). e.1) is in
      let here = subst (IsAnswered (code_on call) (place_on call)) one got in (
        subst (λ p. BusCallMeans terms tries nodes layout call old.past seen added p) (sym (ap (λ (b : BusState). b.past) left))
            ((bus_calls terms tries nodes layout call old.past end.1 seen added is_bus at_once).1 (end.0, here, runs)),
        ap (λ (b : BusState). b.station) left ∙ sym (end_is end.0 here),
      )

on_bus : (terms : Terms) (tries nodes : ℕ) (layout : Map) (call : CallOnBus) (old new : BusState) (seen added : ChipHistory)
    → terms.port ≡ Bus → old.past.choice ≡ AtOnce
    → CallOnBusMeans terms tries nodes layout call old seen added new
    ↔ ComesTo terms tries (code_of_call call) (place_of_call call) (on_bus_process terms layout nodes (asked call) old) seen added
    new
on_bus terms tries nodes layout (of_rounds call) old new seen added is_bus at_once = (
  to_lifted terms tries nodes layout call old new seen added is_bus at_once,
  of_lifted terms tries nodes layout call old new seen added is_bus at_once,
)
on_bus terms tries nodes layout (of_frames call) old new seen added is_bus at_once =
    frame_calls terms tries call old new seen added

-- ---- one after another

module _ {Call Ask State : Type 0} (terms : Terms) (tries : ℕ)
    (means : Call → State → ChipHistory → ChipHistory → State → Type 0) (process : Ask → State → CallProcess State)
    (asks : Call → Ask) (code : Call → ℕ) (place : Call → Place) (fits : State → Type 0)
    (same : (call : Call) (old new : State) (seen added : ChipHistory) → fits old
    → means call old seen added new ↔ ComesTo terms tries (code call) (place call) (process (asks call) old) seen added new)
    (keeps : (call : Call) (old new : State) (seen added : ChipHistory) → means call old seen added new → fits old → fits new) where
  abbrev Comes : List Call → HandlePlace State → HandlePlace State → Type 0
  Comes calls old new =
      ThreadComes terms tries code place calls (thread_process process (map asks calls) old.state) old new

  abbrev then_rest : List Call → CallEnd State → Process (ThreadEnd State)
  then_rest calls end = ending (thread_process process (map asks calls) end.1) (answered_first end.0)

  to_thread : (calls : List Call) (old new : HandlePlace State) → fits old.state → CallsMean means calls old new
      → Comes calls old new
  to_thread [] old new fit is = record {
    answers = [];
    answered = tt;
    added = [];
    seen = ap (λ (p : HandlePlace State). p.seen) is;
    runs = (refl, λ i. ([], (is i).state));
  }
  to_thread (call ∷ calls) old new fit (added, left, first, rest) =
      let between : HandlePlace State = record { state = left; seen = added ++ old.seen } in
      let later = to_thread calls between new (keeps call old.state left old.seen added first fit) rest in
      let (answer, got, runs) = (same call old.state left old.seen added fit).0 first in
      record {
        answers = answer ∷ later.answers;
        answered = (got, later.answered);
        added = later.added ++ added;
        seen = later.seen ∙ sym (append_assoc later.added added old.seen);
        runs = follow terms tries (then_rest calls) (process (asks call) old.state) old.seen (later.added ++ added)
            (answer ∷ later.answers, new.state) (
              (answer, left),
              record {
                earlier = added;
                later = later.added;
                whole = refl;
                begins = runs;
                ends = (ends_so terms tries (answered_first answer) (thread_process process (map asks calls) left)
                    (added ++ old.seen) later.added (answer ∷ later.answers, new.state)).1
                    ((later.answers, new.state), later.runs, refl);
              },
            );
      }

  -- ---- and back

  of_none : (answers : List Answer) → AreAnswered code place [] answers → answers ≡ []
  of_none [] answered = refl
  of_none (answer ∷ answers) answered = absurd answered

  of_thread : (calls : List Call) (old new : HandlePlace State) → fits old.state → Comes calls old new
      → CallsMean means calls old new
  of_thread [] old new fit h =
      let (none, is) = h.runs in
      λ i. record {
        state = (ap (λ (e : ThreadEnd State). e.1) is) i;
        seen = (h.seen ∙ ap (λ es. es ++ old.seen) none) i;
      }
  of_thread (call ∷ calls) old new fit h =
      let (end, steps) = follows terms tries (then_rest calls) (process (asks call) old.state) old.seen h.added
      (h.answers, new.state) h.runs in
      let (rest, runs, is) = (ends_so terms tries (answered_first end.0) (thread_process process (map asks calls) end.1)
      (steps.earlier ++ old.seen) steps.later (h.answers, new.state)).0 steps.ends in
      let answers_are : h.answers ≡ end.0 ∷ rest.0 = ap (λ (e : ThreadEnd State). e.0) is in
      let state_is : new.state ≡ rest.1 = ap (λ (e : ThreadEnd State). e.1) is in
      let (got, others) = subst (AreAnswered code place (call ∷ calls)) answers_are h.answered in
      let first = (same call old.state end.1 old.seen steps.earlier fit).1 (end.0, got, steps.begins) in
      let between : HandlePlace State = record { state = end.1; seen = steps.earlier ++ old.seen } in (
        steps.earlier,
        end.1,
        first,
        of_thread calls between new (keeps call old.state end.1 old.seen steps.earlier first fit) (record {
          answers = rest.0;
          answered = others;
          added = steps.later;
          seen = h.seen ∙ ap (λ es. es ++ old.seen) steps.whole ∙ append_assoc steps.later steps.earlier old.seen;
          runs = subst (λ s. Runs terms tries (thread_process process (map asks calls) end.1) (steps.earlier ++ old.seen)
              steps.later (rest.0, s)) (sym state_is) runs;
        }),
      )

  threads_so : (calls : List Call) (old new : HandlePlace State) → fits old.state
      → CallsMean means calls old new ↔ Comes calls old new
  threads_so calls old new fit = (to_thread calls old new fit, of_thread calls old new fit)

pub host_threads : HostThreadsAreProcesses
host_threads terms tries layout calls old new =
    threads_so terms tries (HostCallMeans terms tries layout) (host_process terms layout) asked_by code_got place_of
    (λ state. Unit {0})
    (λ call own left seen added fit. host_calls terms tries layout call own left seen added)
    (λ call own left seen added means fit. tt) calls old new tt

pub bus_threads : BusThreadsAreProcesses
bus_threads terms tries nodes layout calls old new is_bus at_once =
    threads_so terms tries (CallOnBusMeans terms tries nodes layout) (on_bus_process terms layout nodes) asked code_of_call
    place_of_call
    (λ (state : BusState). state.past.choice ≡ AtOnce)
    (λ call before after seen added fit. on_bus terms tries nodes layout call before after seen added is_bus fit)
    (λ call before after seen added means fit.
    calls_on_bus_keep terms tries nodes layout call before after seen added means ∙ fit) calls old new at_once
