-- Calls by which a chip takes part in a frame on a bus of several, or powers down in between, as processes. Source: this project's
-- own, after what the calls stand for (C_CAN User's Manual 1.2, section 4.2; Texas Instruments AM335x Technical Reference Manual,
-- chapter DCAN, "Local Power-Down Mode").
use Rattle.std.specs.Prelude.{ℕ, ◌==◌, Bool, true, false, Option, Some, None, Result, Ok, Err, is_some, nat_lt, if◌then◌else◌}
use Rattle.std.specs.Option.{option_map_or}
use Rattle.ccan_object.specs.declared.profile.Profile.{Profile}
use Rattle.ccan_accept.specs.declared.frame.Frame.{Frame}
use Rattle.ccan_confine.specs.declared.bus_event.BusEvent.{BusEvent}
use Rattle.ccan_confine.specs.declared.controller.Controller.{Controller}
use Rattle.ccan_confine.specs.declared.controller_change.ControllerChange.TheVariants.{Frame as FrameEvent, PowerDown}
use Rattle.ccan_confine.specs.declared.status_event.StatusEvent.{StatusEvent}
use Rattle.ccan_confine.specs.Controller.{is_powered_down}
use Rattle.ccan_ram.specs.declared.flag.Flag.TheVariants.{TxRqst}
use Rattle.ccan_ram.specs.declared.sending.Sending.{Sending}
use Rattle.ccan_ram.specs.Terms.{Terms}
use Rattle.ccan_bus.specs.declared.answer.LoadAnswer.{LoadAnswer}
use Rattle.ccan_bus.specs.declared.answer.LoadAnswer.TheVariants as load
use Rattle.ccan_bus.specs.declared.round_end.RoundEnd.{RoundEnd}
use Rattle.ccan_process.specs.Process.{Does, Ended, followed_by}
use Rattle.ccan_chip.specs.Arrival.{unloaded}
use Rattle.ccan_line.specs.declared.line_answer.LineAnswer.TheVariants as answer
use Rattle.ccan_wire.specs.declared.flaw.Flaw.{Flaw}
use Rattle.ccan_wire.specs.declared.wire.Wire.{Wire}
use Rattle.ccan_wire.specs.Event.{event_of}
use Rattle.ccan_wire.specs.Wire.{start_of}
use Rattle.ccan_station.specs.declared.ended.Ended.{Ended as EndedPart}
use Rattle.ccan_station.specs.declared.loaded.Loaded.{Loaded}
use Rattle.ccan_station.specs.Station.{due, ending as with_flaw, frame_won, left_by, loaded_before, may_send, member_now, member_of}
use Rattle.ccan_station.specs.Station.{role_now, sending_now, sent_as, still_loaded, still_under_way}
use Rattle.ccan_registers.specs.declared.access_error.AccessError.{AccessError}
use Rattle.ccan_registers.specs.Frames.{StationState}
use Rattle.ccan_registers.specs.PowerDown.{is_to_power_down, power_told}
use Rattle.ccan_c.specs.declared.shown_wire.ShownWire.{ShownWire}
use Rattle.ccan_c.specs.Answer.{code_of}
use Rattle.ccan_c.specs.Codes.{done, event_range, fault_range, place_range, wire_range}
use Rattle.ccan_c.specs.Finished.{c_finished, code_of_end, event_in}
use Rattle.ccan_c.specs.FrameCall.{BusState, code_of_change}
use Rattle.ccan_c.specs.Host.{number_of}
use Rattle.ccan_c.specs.HostCall.{code_of_access}
use Rattle.ccan_c.specs.Wire.{c_member, flaw_in, is_flaw, is_wire, most_members, wire_in}
use Rattle.ccan_calls.specs.Answer.{CallEnd, CallProcess, Finished, Given, Member, Nothing, Number, end_of, refuses}
use Rattle.ccan_calls.specs.BusCallProcess.{controller_shown}
use Rattle.ccan_calls.specs.FrameAsk.{FrameAsk, begin, stay, finish, retry, power_down}
use Rattle.ccan_calls.specs.LoadProcess.{arrives, start_first}
use Rattle.ccan_calls.specs.Parts.{flag_shown}
use Rattle.ccan_calls.specs.Process.{ChangesController, InsistsOnChange, LooksAtController, Pauses, Process, ending}
use Rattle.ccan_calls.specs.RoundProcess.{EventEnd, completes, makes_event}

-- a call, and what the handle keeps after it
abbrev pub FrameProcess : Type 0
FrameProcess = CallProcess BusState

-- with this part in the frame that is under way
abbrev pub with_part : BusState → StationState → BusState
with_part old station = record { past = old.past; station = station }

-- ---- the start of a frame

-- what came of a load, and what is loaded then
abbrev pub FrameLoad : Type 0
FrameLoad = LoadAnswer × Option Loaded

-- the object that was started is loaded
abbrev pub started_by : Sending → LoadAnswer → FrameLoad
started_by sending (load.Loaded object after) =
    (load.Loaded object after, Some (record { object = object; started = after; sending = sending }))
started_by sending answer = (answer, None)

-- what is loaded stays; if nothing is, an object is chosen and started; and a chip that sends nothing has nothing loaded
abbrev pub loads_frame : Profile → Bool → Sending → Option Loaded → Process FrameLoad
loads_frame profile false sending loaded = Does Pauses (λ paused. Ended (load.Nothing, None))
loads_frame profile true sending (Some held) = Does Pauses (λ paused. Ended (load.Held held.object, Some held))
loads_frame profile true sending None = ending (start_first profile sending) (started_by sending)

-- the controller that was found, and what came of the load
abbrev pub FrameStart : Type 0
FrameStart = Controller × FrameLoad

abbrev pub start_with : Controller → FrameLoad → FrameStart
start_with found load = (found, load)

abbrev pub starts_frame : Profile → Option Loaded → Process FrameStart
starts_frame profile loaded =
    followed_by arrives (λ looked.
    ending (loads_frame profile (may_send (role_now looked.1)) (sending_now looked.1) (loaded_before looked.0 loaded))
    (start_with looked.1))

-- the member that the chip is from there is under way, and what a load for a round has loaded is dropped
abbrev pub start_end : BusState → FrameStart → CallEnd BusState
start_end old (found, load) =
    let member = member_of found load.1 in
    end_of (code_of (answer.Load load.0)) (Member (c_member member))
    (record { past = unloaded old.past; station = record { loaded = load.1; under_way = Some member } })

-- ---- until its end

-- a controller that has left the bus keeps nothing under way and nothing loaded
abbrev pub stay_end : BusState → Controller → CallEnd BusState
stay_end old found =
    let under_way = still_under_way found old.station.under_way in
    end_of done (Member (c_member (member_now under_way)))
    (with_part old (record { loaded = still_loaded found old.station.loaded; under_way = under_way }))

-- ---- its end

-- what the frame was to the controller that was found
abbrev pub own_on : Wire → ℕ → Option Flaw → StationState → Controller → Option (BusEvent × StatusEvent)
own_on on place flaw station found = event_of on place (with_flaw (still_under_way found station.under_way) flaw)

abbrev pub part_told : Controller → Option (BusEvent × StatusEvent) → RoundEnd → EventEnd → EndedPart
part_told found own end noted = record { found = found; own = own; end = end; noted = noted }

-- the objects have their part, and then the controller has its event
abbrev pub ends_as : Profile → Controller → Option (BusEvent × StatusEvent) → Option Loaded → Option Frame → Process EndedPart
ends_as profile found own loaded won =
    followed_by (completes profile (sent_as loaded) (due own loaded won))
    (λ end. ending (makes_event own) (part_told found own end))

abbrev pub ends_frame : Profile → Wire → ℕ → Option Flaw → StationState → Process EndedPart
ends_frame profile on place flaw station =
    Does LooksAtController (λ found.
    ends_as profile found (own_on on place flaw station found) (still_loaded found station.loaded) (frame_won (start_of on)))

-- nothing is under way any more
abbrev pub frame_end : BusState → EndedPart → CallEnd BusState
frame_end old told =
    end_of (code_of_end told) (Finished (c_finished told))
    (with_part old (record { loaded = left_by told.own (still_loaded told.found old.station.loaded); under_way = None }))

-- the end of the frame that these numbers say, or they are refused
abbrev pub finishes : Profile → ShownWire → ℕ → ℕ → BusState → FrameProcess
finishes profile on place fault old =
    if is_wire on
    then (if nat_lt place most_members
    then (if is_flaw fault
    then ending (ends_frame profile (wire_in on) place (flaw_in fault) old.station) (frame_end old)
    else refuses fault_range old)
    else refuses place_range old)
    else refuses wire_range old

-- the event of a frame once more
abbrev pub retries : BusEvent × StatusEvent → BusState → FrameProcess
retries own old =
    Does (InsistsOnChange (FrameEvent own.0 own.1)) (λ outcome. Ended (end_of (code_of_change outcome) Nothing old))

-- ---- power down

abbrev pub Power : Type 0
Power = Result Bool AccessError

-- unless a transmission is requested
abbrev pub powers_down_idle : ℕ → Process Power
powers_down_idle requests =
    if requests == 0 then Does (ChangesController PowerDown) (λ outcome. Ended (power_told outcome)) else Ended (Ok false)

-- if a host asks for it, and the controller still takes part in the traffic
abbrev pub powers_down_by : Bool → Controller → Process Power
powers_down_by true found = followed_by (flag_shown TxRqst) powers_down_idle
powers_down_by false found = Ended (Ok (is_powered_down found))

-- between frames
abbrev pub powers_down : Bool → Process Power
powers_down true = Ended (Ok false)
powers_down false = Does LooksAtController (λ found. powers_down_by (is_to_power_down found) found)

abbrev pub power_given : Power → Given
power_given (Ok down) = Number (number_of down)
power_given (Err why) = Nothing

abbrev pub power_end : BusState → Power → CallEnd BusState
power_end old told = end_of (code_of_access (Some told)) (power_given told) old

-- ---- all of them

abbrev pub frame_process : Terms → FrameAsk → BusState → FrameProcess
frame_process terms begin old = ending (starts_frame terms.profile old.station.loaded) (start_end old)
frame_process terms stay old = ending controller_shown (stay_end old)
frame_process terms (finish on place fault) old = finishes terms.profile on place fault old
frame_process terms (retry lost) old = option_map_or (λ own. retries own old) (event_in lost) (refuses event_range old)
frame_process terms power_down old = ending (powers_down (is_some old.station.under_way)) (power_end old)
