-- The calls on the bus's handle by which a chip takes part in a frame on a bus of several, or powers down in between, and what
-- each stands for in the history of the chip; and all calls on that handle. Source: this project's own, over the definitions of
-- a chip's part.
use Rattle.std.specs.Prelude.{ℕ, ◌≡◌, Bool, false, Option, Some, Result, Ok, Err, MatchBool, MatchOption, is_some, nat_lt}
use Rattle.ccan_ram.specs.Terms.{Terms}
use Rattle.ccan_ram.specs.Tries.{most_tries}
use Rattle.ccan_confine.specs.declared.bus_event.BusEvent.{BusEvent}
use Rattle.ccan_confine.specs.declared.controller_change.ControllerChange.TheVariants.{Frame}
use Rattle.ccan_confine.specs.declared.status_event.StatusEvent.{StatusEvent}
use Rattle.ccan_bus.specs.Bus.{LedTo}
use Rattle.ccan_bus.specs.Past.{BusPast}
use Rattle.ccan_chip.specs.Arrival.{unloaded}
use Rattle.ccan_endless.specs.declared.controller_changed.ControllerBusy.{ControllerBusy}
use Rattle.ccan_endless.specs.declared.controller_changed.ControllerChanged.{ControllerChanged}
use Rattle.ccan_endless.specs.Chip.{ChipHistory}
use Rattle.ccan_line.specs.declared.line_answer.LineAnswer.TheVariants as answer
use Rattle.ccan_chip.specs.declared.map.Map.{Map}
use Rattle.ccan_registers.specs.declared.access_error.AccessError.{AccessError}
use Rattle.ccan_registers.specs.ChipSteps.{Changes, ChipGoes}
use Rattle.ccan_registers.specs.Frames.{BeginsOnChip, EndsOnChip, StationState, StaysOnChip}
use Rattle.ccan_registers.specs.PowerDown.{PowersDown}
use Rattle.ccan_registers.specs.Register.{IsQuiet}
use Rattle.ccan_station.specs.declared.begun.Begun.{Begun}
use Rattle.ccan_station.specs.declared.ended.Ended.{Ended}
use Rattle.ccan_station.specs.declared.stayed.Stayed.{Stayed}
use Rattle.ccan_c.specs.declared.held.Held.{Held}
use Rattle.ccan_c.specs.declared.shown_finished.ShownFinished.{ShownFinished}
use Rattle.ccan_c.specs.declared.shown_member.ShownMember.{ShownMember}
use Rattle.ccan_c.specs.declared.shown_wire.ShownWire.{ShownWire}
use Rattle.ccan_c.specs.Answer.{code_of}
use Rattle.ccan_c.specs.BusCall.{BusCall, BusCallDoes, BusCallMeans, station_after}
use Rattle.ccan_c.specs.Call.{IsCall}
use Rattle.ccan_c.specs.Codes.{busy, done, event_range, fault_range, place_range, wire_range}
use Rattle.ccan_c.specs.Finished.{c_finished, code_of_end, event_in}
use Rattle.ccan_c.specs.Held.{IsOpenAs, WorksAsBefore, port_of, station_of, tries_of}
use Rattle.ccan_c.specs.Host.{number_of}
use Rattle.ccan_c.specs.HostCall.{code_of_access}
use Rattle.ccan_c.specs.Step.{Rests}
use Rattle.ccan_c.specs.Wire.{c_member, flaw_in, is_flaw, is_wire, most_members, wire_in}

-- what the calls on the bus's handle work on: the past of its rounds, and its part in the frames of a bus of several
pub record BusState : Type 0 where
  pub past : BusPast
  pub station : StationState

-- a call that was made: what C passed, the code that it got, and then what it got in the place for the result
pub data FrameCall : Type 0 where
  begin : ℕ → ShownMember → FrameCall
  stay : ℕ → ShownMember → FrameCall
  finish : ShownWire → ℕ → ℕ → ℕ → ShownFinished → FrameCall
  retry : ShownFinished → ℕ → FrameCall
  power_down : ℕ → ℕ → FrameCall

abbrev pub frame_code : FrameCall → ℕ
frame_code (begin result out) = result
frame_code (stay result out) = result
frame_code (finish on place fault result out) = result
frame_code (retry lost result) = result
frame_code (power_down result out) = result

-- the code of a change of the controller
abbrev pub code_of_change : Result ControllerChanged ControllerBusy → ℕ
code_of_change (Ok made) = done
code_of_change (Err lost) = busy

-- the end of a frame that these numbers say
pub record FrameEnds (terms : Terms) (tries : ℕ) (on : ShownWire) (place fault : ℕ) (old : BusState) (seen added : ChipHistory)
    (new : BusState) (result : ℕ) (out : ShownFinished) : Type 0 where
  pub told : Ended
  pub ends : EndsOnChip terms tries (wire_in on) place (flaw_in fault) old.station seen added new.station told
  pub code_is : result ≡ code_of_end told
  pub shows : out ≡ c_finished told
  pub keeps : new.past ≡ old.past

-- the event is made at the controller, or each try was lost once more
abbrev pub RetriesEvent : Terms → BusEvent × StatusEvent → ChipHistory → ChipHistory → ℕ → Type 0
RetriesEvent terms own seen added result =
    (outcome : Result ControllerChanged ControllerBusy)
    × Changes terms.port (Frame own.0 own.1) most_tries seen added outcome × (result ≡ code_of_change outcome)

-- local power down: while a frame is under way the chip is not powered down, and makes no step
abbrev pub PowersDownBetween : Terms → ℕ → Bool → ChipHistory → ChipHistory → Result Bool AccessError → Type 0
PowersDownBetween terms tries under_way seen added told =
    MatchBool under_way (IsQuiet added told false) (PowersDown terms tries seen added told)

-- whether the chip is powered down, as C gets it
abbrev pub IsPower : Result Bool AccessError → ℕ → Type 0
IsPower (Ok down) out = out ≡ number_of down
IsPower (Err why) out = Unit {0}

-- The events that the call adds, what C gets, and what the bus's handle is after it. The start of a frame drops what an earlier
-- load for a round has loaded.
abbrev pub FrameCallMeans : Terms → ℕ → FrameCall → BusState → ChipHistory → ChipHistory → BusState → Type 0
FrameCallMeans terms tries (begin result out) old seen added new =
    (told : Begun) × BeginsOnChip terms tries old.station seen added new.station told
    × (result ≡ code_of (answer.Load told.loading)) × (out ≡ c_member told.member) × (new.past ≡ unloaded old.past)
FrameCallMeans terms tries (stay result out) old seen added new =
    (told : Stayed) × StaysOnChip terms old.station seen added new.station told
    × (result ≡ done) × (out ≡ c_member told.member) × (new.past ≡ old.past)
FrameCallMeans terms tries (finish on place fault result out) old seen added new =
    MatchBool (is_wire on)
    (MatchBool (nat_lt place most_members)
    (MatchBool (is_flaw fault) (FrameEnds terms tries on place fault old seen added new result out)
    (Rests fault_range old new added result))
    (Rests place_range old new added result))
    (Rests wire_range old new added result)
FrameCallMeans terms tries (retry lost result) old seen added new =
    MatchOption (event_in lost) (Rests event_range old new added result)
    (λ own. RetriesEvent terms own seen added result × (new ≡ old))
FrameCallMeans terms tries (power_down result out) old seen added new =
    ((told : Result Bool AccessError) × PowersDownBetween terms tries (is_some old.station.under_way) seen added told
    × (result ≡ code_of_access (Some told)) × IsPower told out) × (new ≡ old)

-- a call on an open handle
pub record FrameRuns (call : FrameCall) (old new : Held) : Type 0 where
  pub works : WorksAsBefore old new
  pub own : new.own ≡ old.own
  pub goes : (past : BusPast) → LedTo past old.bus.bus
      → (after : BusPast) × LedTo after new.bus.bus
      × ChipGoes (port_of old) (port_of new) (λ terms seen added.
      FrameCallMeans terms (tries_of old) call (record { past = past; station = station_of old }) seen added
      (record { past = after; station = station_of new }))

-- what the contract of the call says of what the handle stands for before and after it
abbrev pub FrameCallDoes : FrameCall → Option Held → Option Held → Type 0
FrameCallDoes call before after = IsCall before after (frame_code call) (λ held. IsOpenAs (FrameRuns call held) after)

-- ---- all calls on the bus's handle

pub data CallOnBus : Type 0 where
  of_rounds : BusCall → CallOnBus
  of_frames : FrameCall → CallOnBus

-- a load or a round drops what the start of a frame has loaded; each other call that is not one of a frame leaves it
abbrev pub CallOnBusMeans : Terms → ℕ → ℕ → Map → CallOnBus → BusState → ChipHistory → ChipHistory → BusState → Type 0
CallOnBusMeans terms tries nodes map (of_rounds call) old seen added new =
    BusCallMeans terms tries nodes map call old.past seen added new.past
    × (new.station ≡ station_after call old.station)
CallOnBusMeans terms tries nodes map (of_frames call) old seen added new =
    FrameCallMeans terms tries call old seen added new

abbrev pub CallOnBusDoes : CallOnBus → Option Held → Option Held → Type 0
CallOnBusDoes (of_rounds call) before after = BusCallDoes call before after
CallOnBusDoes (of_frames call) before after = FrameCallDoes call before after

-- a call of the bus does not change how the bus chooses what it sends next: a chip's bus always chooses at one moment
abbrev pub CallsKeepTheChoice : Type 0
CallsKeepTheChoice =
    (terms : Terms) (tries nodes : ℕ) (layout : Map) (call : CallOnBus) (old new : BusState) (seen added : ChipHistory)
    → CallOnBusMeans terms tries nodes layout call old seen added new → new.past.choice ≡ old.past.choice
