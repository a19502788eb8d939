-- The calls on a handle, one after another, as one process. Source: this project's own.
use Rattle.std.specs.Prelude.{ℕ, ◌≡◌, List, [], ◌∷◌, ◌++◌, if◌then◌else◌}
use Rattle.ccan_ram.specs.Terms.{Terms}
use Rattle.ccan_process.specs.Process.{Ended, followed_by}
use Rattle.ccan_endless.specs.Chip.{ChipHistory}
use Rattle.ccan_chip.specs.declared.map.Map.{Map}
use Rattle.ccan_bus.specs.Past.{BusPast}
use Rattle.ccan_registers.specs.Frames.{StationState, at_rest}
use Rattle.ccan_c.specs.BusCall.{code_got as code_on, is_played}
use Rattle.ccan_c.specs.FrameCall.{BusState, CallOnBus, frame_code, of_frames, of_rounds}
use Rattle.ccan_c.specs.Step.{Place as HandlePlace}
use Rattle.ccan_calls.specs.Answer.{Answer, CallEnd, CallProcess, IsAnswered, Place}
use Rattle.ccan_calls.specs.BusAsk.{BusAsk, asked_on, load, place_on, round}
use Rattle.ccan_calls.specs.BusCallProcess.{bus_process}
use Rattle.ccan_calls.specs.FrameAsk.{FrameAsk, asked_of, place_after}
use Rattle.ccan_calls.specs.FrameProcess.{frame_process}
use Rattle.ccan_calls.specs.Process.{Process, ending}
use Rattle.ccan_calls.specs.Runs.{Runs}

-- ---- any call on the bus's handle

-- what C passes
pub data OnBusAsk : Type 0 where
  asks_bus : BusAsk → OnBusAsk
  asks_frame : FrameAsk → OnBusAsk

-- what was asked, the code that was got, and what stands in the place for the result
abbrev pub asked : CallOnBus → OnBusAsk
asked (of_rounds call) = asks_bus (asked_on call)
asked (of_frames call) = asks_frame (asked_of call)

abbrev pub code_of_call : CallOnBus → ℕ
code_of_call (of_rounds call) = code_on call
code_of_call (of_frames call) = frame_code call

abbrev pub place_of_call : CallOnBus → Place
place_of_call (of_rounds call) = place_on call
place_of_call (of_frames call) = place_after call

-- a load or a round drops what the start of a frame has loaded, and what is under way
abbrev pub station_left : BusAsk → ℕ → StationState → StationState
station_left load code old = at_rest
station_left (round offers fault) code old = if is_played code then at_rest else old
station_left ask code old = old

abbrev pub with_station : BusAsk → StationState → CallEnd BusPast → CallEnd BusState
with_station ask old (answer, past) = (answer, record { past = past; station = station_left ask answer.code old })

abbrev pub on_bus_process : Terms → Map → ℕ → OnBusAsk → BusState → CallProcess BusState
on_bus_process terms map nodes (asks_bus ask) old =
    ending (bus_process terms map nodes ask old.past) (with_station ask old.station)
on_bus_process terms map nodes (asks_frame ask) old = frame_process terms ask old

-- ---- one after another

-- the answers, the first call's first, and what is left
abbrev pub ThreadEnd : Type 0 → Type 0
ThreadEnd State = List Answer × State

abbrev pub answered_first : {State : Type 0} → Answer → ThreadEnd State → ThreadEnd State
answered_first answer (answers, left) = (answer ∷ answers, left)

-- each call finds what the one before it left
abbrev pub thread_process : {Ask State : Type 0} → (Ask → State → CallProcess State) → List Ask → State
    → Process (ThreadEnd State)
thread_process process [] state = Ended ([], state)
thread_process process (ask ∷ asks) state =
    followed_by (process ask state) (λ end. ending (thread_process process asks end.1) (answered_first end.0))

-- the calls got these answers, each its own
abbrev pub AreAnswered : {Call : Type 0} → (Call → ℕ) → (Call → Place) → List Call → List Answer → Type 0
AreAnswered code place [] [] = Unit {0}
AreAnswered code place (call ∷ calls) (answer ∷ answers) =
    IsAnswered (code call) (place call) answer × AreAnswered code place calls answers
AreAnswered code place calls answers = ⊥

-- a process leads the handle from the one place to the other, and the calls got their answers
pub record ThreadComes {Call State : Type 0} (terms : Terms) (tries : ℕ) (code : Call → ℕ) (place : Call → Place)
    (calls : List Call) (process : Process (ThreadEnd State)) (old new : HandlePlace State) : Type 0 where
  pub answers : List Answer
  pub answered : AreAnswered code place calls answers
  pub added : ChipHistory
  pub seen : new.seen ≡ added ++ old.seen
  pub runs : Runs terms tries process old.seen added (answers, new.state)
