-- The choice of what is sent as a process: a picture, and then a start of each object that was ready in it, up to one that is made
-- or refused. Source: this project's own, after what a choice at one moment comes to (C_CAN User's Manual 1.2, section 4.2).
use Rattle.std.specs.Prelude.{ℕ, zero, suc, Bool, true, false, Option, Some, None, if◌then◌else◌}
use Rattle.ccan_object.specs.declared.profile.Profile.{Profile}
use Rattle.ccan_object.specs.declared.record.Record.{Record}
use Rattle.ccan_object.specs.Profile.{objects_in}
use Rattle.ccan_confine.specs.declared.controller.Controller.{Controller}
use Rattle.ccan_confine.specs.declared.controller_change.ControllerChange.TheVariants.{Join}
use Rattle.ccan_ram.specs.declared.handler_registers.HandlerRegisters.{HandlerRegisters}
use Rattle.ccan_ram.specs.declared.sending.Sending.{Sending}
use Rattle.ccan_ram.specs.declared.sending.Sending.TheVariants.{UntilSent}
use Rattle.ccan_ram.specs.Sending.{start_by}
use Rattle.ccan_handler.specs.Moment.{was_ready}
use Rattle.ccan_bus.specs.declared.answer.LoadAnswer.{LoadAnswer}
use Rattle.ccan_bus.specs.declared.answer.LoadAnswer.TheVariants as load
use Rattle.ccan_bus.specs.Past.{BusPast, is_on}
use Rattle.ccan_process.specs.Act.{Attempted, GaveUp, Made, Unfit, WasSpent}
use Rattle.ccan_process.specs.Process.{Does, Ended, followed_by}
use Rattle.ccan_chip.specs.Arrival.{comes_back, left_behind}
use Rattle.ccan_chip.specs.Round.{as_found, events_in}
use Rattle.ccan_calls.specs.Process.{Attempts, InsistsOnChange, LooksAtController, Pauses, Pictures, Process, Recalls, ending}

-- an object that is no longer ready is passed over
abbrev pub start_end : ℕ → Process LoadAnswer → Attempted → Process LoadAnswer
start_end object next (Made before after) = Ended (load.Loaded object after)
start_end object next (Unfit now) = next
start_end object next GaveUp = Ended (load.Busy object)
start_end object next WasSpent = Ended (load.Spent object)

-- so is one that was not ready in the picture
abbrev pub start_at : Sending → HandlerRegisters → ℕ → Process LoadAnswer → Process LoadAnswer
start_at sending shown object next =
    if was_ready shown object then Does (Attempts object (start_by sending)) (start_end object next) else next

-- this many objects from this one on
abbrev pub start_each : Sending → HandlerRegisters → ℕ → ℕ → Process LoadAnswer
start_each sending shown zero object = Ended load.Nothing
start_each sending shown (suc more) object = start_at sending shown object (start_each sending shown more (suc object))

abbrev pub start_first : Profile → Sending → Process LoadAnswer
start_first profile sending = Does Pictures (λ shown. start_each sending shown (objects_in profile) 1)

-- ---- a load

abbrev pub LoadEnd : Type 0
LoadEnd = LoadAnswer × BusPast

-- what is loaded then
abbrev pub loaded_by : BusPast → LoadAnswer → LoadEnd
loaded_by past (load.Loaded object after) = (load.Loaded object after, record past { loaded = Some (object, after) })
loaded_by past answer = (answer, past)

-- without a step at an object
abbrev pub rests_with : LoadAnswer → BusPast → Process LoadEnd
rests_with answer past = Does Pauses (λ paused. Ended (answer, past))

-- nothing is loaded yet; by whether the controller is on
abbrev pub load_next : Profile → BusPast → Bool → Process LoadEnd
load_next profile past true = ending (start_first profile UntilSent) (loaded_by past)
load_next profile past false = rests_with load.Nothing past

abbrev pub load_from : Profile → BusPast → Option (ℕ × Record) → Process LoadEnd
load_from profile past (Some held) = rests_with (load.Held held.0) past
load_from profile past None = load_next profile past (is_on past 0)

-- the bus as it is
abbrev pub load_on : Profile → BusPast → Process LoadEnd
load_on profile past = load_from profile past past.loaded

-- the port comes to the bus: what its first look at the controller found, and its last
abbrev pub Looked : Type 0
Looked = Controller × Controller

abbrev pub looks_again : Controller → Process Looked
looks_again first = Does LooksAtController (λ found. Ended (first, found))

abbrev pub arrives : Process Looked
arrives =
    Does LooksAtController (λ first. if comes_back first then Does (InsistsOnChange Join) (λ joined. looks_again first)
    else Ended (first, first))

-- and then it does this, with the controller that was found last, and the bus as it is with that
abbrev pub arrives_and : {A : Type 0} → BusPast → (Controller → BusPast → Process A) → Process A
arrives_and past next =
    followed_by arrives (λ looked. Does Recalls (λ history.
    next looked.1 (as_found looked.1 (events_in history) (left_behind looked.0 past))))

abbrev pub loads : Profile → BusPast → Process LoadEnd
loads profile past = arrives_and past (λ found here. load_on profile here)
