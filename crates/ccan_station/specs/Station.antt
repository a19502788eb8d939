-- A chip's part in what is on a bus of several: what it does at the start of a frame, what is left of that at a look until the end,
-- and what it does at the end. Source: C_CAN User's Manual 1.2, "CAN Control Register" (Init: setting it stops all transfer of
-- messages), "Silent Mode" (no transmission can be started), "Loop Back Mode" and section 4.2 (transmission of messages: after an
-- error or a lost arbitration an object is chosen again; acceptance filtering of received messages), and "Disabled Automatic
-- Retransmission". (own): that a chip looks at its controller at the start and at the end of each frame, and makes its event
-- there after the memory steps; that DAR counts as it is when a transmission starts.
use Rattle.std.specs.Prelude.{ℕ, ◌≡◌, Bool, true, false, List, [], ◌++◌, Option, Some, None, Ok, Err}
use Rattle.std.specs.Prelude.{if◌then◌else◌}
use Rattle.ccan_accept.specs.declared.frame.Frame.{Frame}
use Rattle.ccan_accept.specs.Send.{frame_of}
use Rattle.ccan_ram.specs.declared.event.Event.{Event}
use Rattle.ccan_ram.specs.declared.sending.Sending.{Sending}
use Rattle.ccan_ram.specs.declared.sending.Sending.TheVariants.{UntilSent, Once}
use Rattle.ccan_ram.specs.SharedRam.{CanSee}
use Rattle.ccan_ram.specs.Terms.{Terms}
use Rattle.ccan_ram.specs.Tries.{most_tries}
use Rattle.ccan_handler.specs.Moment.{Chosen, ChoosesAtOnce}
use Rattle.ccan_confine.specs.declared.bus_event.BusEvent.{BusEvent}
use Rattle.ccan_confine.specs.declared.controller.Controller.{Controller}
use Rattle.ccan_confine.specs.declared.status_event.StatusEvent.{StatusEvent}
use Rattle.ccan_confine.specs.declared.status_event.StatusEvent.TheVariants as status
use Rattle.ccan_bus.specs.declared.answer.LoadAnswer.{LoadAnswer}
use Rattle.ccan_bus.specs.declared.answer.LoadAnswer.TheVariants as load
use Rattle.ccan_bus.specs.declared.decision.Decision.{Decision}
use Rattle.ccan_bus.specs.declared.decision.Decision.TheVariants as decision
use Rattle.ccan_bus.specs.Complete.{Completes}
use Rattle.ccan_bus.specs.Load.{refusal_of_load}
use Rattle.ccan_endless.specs.ChipPort.{AddsNone, ChipPass}
use Rattle.ccan_chip.specs.Arrival.{Arrives, LooksAt, takes_part}
use Rattle.ccan_chip.specs.Round.{Notes}
use Rattle.ccan_wire.specs.declared.flaw.Flaw.{Flaw}
use Rattle.ccan_wire.specs.declared.member.Member.{Member}
use Rattle.ccan_wire.specs.declared.role.Role.{Role}
use Rattle.ccan_wire.specs.declared.role.Role.TheVariants.{Absent, Silent, Alone, Passive, Active, Looped}
use Rattle.ccan_wire.specs.declared.start.Start.{Start}
use Rattle.ccan_wire.specs.declared.start.Start.TheVariants as start
use Rattle.ccan_wire.specs.declared.wire.Wire.{Wire}
use Rattle.ccan_wire.specs.Event.{event_of}
use Rattle.ccan_wire.specs.Member.{nobody}
use Rattle.ccan_wire.specs.Role.{role_of}
use Rattle.ccan_wire.specs.Wire.{start_of}
use Rattle.ccan_station.specs.declared.begun.Begun.{Begun}
use Rattle.ccan_station.specs.declared.ended.Ended.{Ended}
use Rattle.ccan_station.specs.declared.loaded.Loaded.{Loaded}
use Rattle.ccan_station.specs.declared.stayed.Stayed.{Stayed}

-- ---- the start of a frame

-- what it does on the bus: nothing while it has left, and the port has not joined since
abbrev pub role_now : Controller → Role
role_now c = if takes_part c then role_of c else Absent

-- it sends, onto the bus or to itself
abbrev pub may_send : Role → Bool
may_send Absent = false
may_send Silent = false
may_send Alone = true
may_send Passive = true
may_send Active = true
may_send Looped = true

-- what was loaded is dropped if the controller has left the bus, even for a moment
abbrev pub loaded_before : Controller → Option Loaded → Option Loaded
loaded_before first loaded = if first.has_left then None else loaded

-- a frame that is started while DAR is 1 is tried once
abbrev pub sending_now : Controller → Sending
sending_now c = if c.control.dar then Once else UntilSent

abbrev pub loaded_by : Sending → Chosen → Option Loaded
loaded_by sending (Ok None) = None
loaded_by sending (Ok (Some found)) = Some (record { object = found.0; started = found.1; sending = sending })
loaded_by sending (Err refused) = None

abbrev pub answer_of : Chosen → LoadAnswer
answer_of (Ok None) = load.Nothing
answer_of (Ok (Some found)) = load.Loaded found.0 found.1
answer_of (Err refused) = refusal_of_load refused.at refused.why

-- what is loaded stays; if nothing is, an object is chosen and started; and a chip that sends nothing has nothing loaded
abbrev pub Loads : Bool → Sending → Terms → ℕ → List Event → List Event → Option Loaded → Option Loaded → LoadAnswer
    → Type 0
Loads false sending terms tries seen added old new told = (added ≡ []) × (new ≡ None) × (told ≡ load.Nothing)
Loads true sending terms tries seen added (Some started) new told =
    (added ≡ []) × (new ≡ Some started) × (told ≡ load.Held started.object)
Loads true sending terms tries seen added None new told =
    (chosen : Chosen) × ChoosesAtOnce terms sending tries seen added chosen × (new ≡ loaded_by sending chosen)
    × (told ≡ answer_of chosen)

abbrev pub loaded_frame : Option Loaded → Option Frame
loaded_frame None = None
loaded_frame (Some loaded) = Some (frame_of loaded.started)

abbrev pub member_of : Controller → Option Loaded → Member
member_of found loaded = record { role = role_now found; frame = loaded_frame loaded; flaw = None }

-- The port comes to the bus, and what was loaded is dropped if the controller has left it; then a load, by what the controller
-- does there as the last look found it. After that look the port makes no step at the controller. The member is under way.
pub record Begins (terms : Terms) (tries : ℕ) (old new : ChipPass) (loaded after : Option Loaded) (under_way : Option Member)
    (told : Begun) : Type 0 where
  pub looked : ChipPass
  pub first : Controller
  pub arrives : Arrives old looked first told.found
  pub rests : AddsNone looked new
  pub added : List Event
  pub adds : new.pass.seen ≡ added ++ looked.pass.seen
  pub loads : Loads (may_send (role_now told.found)) (sending_now told.found) terms tries looked.pass.seen added
      (loaded_before first loaded) after told.loading
  pub member : told.member ≡ member_of told.found after
  pub waits : under_way ≡ Some told.member

-- ---- until its end

-- what a look leaves of what is under way: a controller that has left the bus takes no part in the rest, even if it is back
abbrev pub still_under_way : Controller → Option Member → Option Member
still_under_way found under_way = if takes_part found then under_way else None

-- and of what is loaded: its object may be chosen again, if it is requested
abbrev pub still_loaded : Controller → Option Loaded → Option Loaded
still_loaded found loaded = if takes_part found then loaded else None

-- the member that is under way, or nobody
abbrev pub member_now : Option Member → Member
member_now None = nobody
member_now (Some m) = m

-- a look at the controller, and no other step
pub record Stays (old new : ChipPass) (loaded after : Option Loaded) (under_way left : Option Member)
    (told : Stayed) : Type 0 where
  pub looks : LooksAt old new told.found
  pub kept : left ≡ still_under_way told.found under_way
  pub held : after ≡ still_loaded told.found loaded
  pub member : told.member ≡ member_now left

-- ---- its end

-- the member that is under way, with the error that it finds by itself
abbrev pub ending : Option Member → Option Flaw → Member
ending under_way flaw = record (member_now under_way) { flaw = flaw }

-- the frame that won the bus
abbrev pub frame_won : Start → Option Frame
frame_won start.Nothing = None
frame_won (start.Collision who) = None
frame_won (start.Won winner) = Some winner.frame

-- the finish of the object that is loaded
abbrev pub finish_of : Option Loaded → Decision
finish_of None = decision.Idle
finish_of (Some loaded) = decision.Finish loaded.object (frame_of loaded.started)

-- its finish, and then the store of its frame
abbrev pub loop_of : Option Loaded → Decision
loop_of None = decision.Idle
loop_of (Some loaded) = decision.LoopBack loaded.object (frame_of loaded.started)

-- the store of a frame. A receipt names a node, on which no step depends: here always the first
abbrev pub receipt_of : Option Frame → Decision
receipt_of None = decision.Idle
receipt_of (Some frame) = decision.Receipt 1 frame

abbrev pub due_by : StatusEvent → Option Loaded → Option Frame → Decision
due_by status.Sent loaded won = finish_of loaded
due_by status.Looped loaded won = loop_of loaded
due_by status.Received loaded won = receipt_of won
due_by (status.Fault code) loaded won = decision.Idle
due_by status.Recovery loaded won = decision.Idle
due_by status.Level loaded won = decision.Idle

-- the memory steps that a member's event calls for
abbrev pub due : Option (BusEvent × StatusEvent) → Option Loaded → Option Frame → Decision
due None loaded won = decision.Idle
due (Some own) loaded won = due_by own.1 loaded won

-- how often what is loaded is tried, as it was started; if nothing is, nothing is finished
abbrev pub sent_as : Option Loaded → Sending
sent_as None = UntilSent
sent_as (Some loaded) = loaded.sending

-- after an event nothing is loaded: the next load chooses again
abbrev pub left_by : Option (BusEvent × StatusEvent) → Option Loaded → Option Loaded
left_by None loaded = loaded
left_by (Some own) loaded = None

-- A look at the controller; if it has left the bus since the start, nothing is under way and nothing is loaded, so there is no
-- event. Then come the memory steps that the event calls for, and last the event at the controller. In between, the port makes no
-- other step there. What was on the bus can't be played again, so the event has as many tries as one may have.
pub record Ends (terms : Terms) (tries : ℕ) (old new : ChipPass) (on : Wire) (place : ℕ) (flaw : Option Flaw)
    (loaded after : Option Loaded) (under_way : Option Member) (told : Ended) : Type 0 where
  pub looked : ChipPass
  pub looks : LooksAt old looked told.found
  pub own : told.own ≡ event_of on place (ending (still_under_way told.found under_way) flaw)
  pub between : ChipPass
  pub rests : AddsNone looked between
  pub sees : CanSee between.pass
  pub added : List Event
  pub adds : between.pass.seen ≡ added ++ looked.pass.seen
  pub completes : Completes terms (sent_as (still_loaded told.found loaded)) tries looked.pass.seen added
      (due told.own (still_loaded told.found loaded) (frame_won (start_of on))) told.end
  pub left : after ≡ left_by told.own (still_loaded told.found loaded)
  pub notes : Notes told.own most_tries between new told.noted
