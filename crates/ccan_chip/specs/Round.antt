-- Rounds of a chip whose controller's registers are beside its objects, where any port may change them at any time. Source: C_CAN
-- User's Manual 1.2, "CAN Control Register" (Init), "Test Register" (LBack) and section 4.2 (message handling). That a round
-- looks at the controller before all else, and makes its event there after the memory steps, is (own).
use Rattle.std.specs.Prelude.{ℕ, ◌≡◌, ◌==◌, Bool, false, ◌&&◌, List, ◌++◌, Option, Some, None, Result, if◌then◌else◌}
use Rattle.ccan_ram.specs.declared.event.Event.{Event}
use Rattle.ccan_ram.specs.SharedRam.{CanSee}
use Rattle.ccan_ram.specs.Terms.{Terms}
use Rattle.ccan_ram.specs.Tries.{most_tries}
use Rattle.ccan_confine.specs.declared.bus_event.BusEvent.{BusEvent}
use Rattle.ccan_confine.specs.declared.bus_event.BusEvent.TheVariants as event
use Rattle.ccan_confine.specs.declared.controller.Controller.{Controller}
use Rattle.ccan_confine.specs.declared.controller_change.ControllerChange.TheVariants.{Frame, Recessive}
use Rattle.ccan_confine.specs.declared.status_event.StatusEvent.{StatusEvent}
use Rattle.ccan_confine.specs.declared.status_event.StatusEvent.TheVariants as status
use Rattle.ccan_confine.specs.Controller.{controller_after}
use Rattle.ccan_confine.specs.ControllerLaws.{node_events}
use Rattle.ccan_confine.specs.Counters.{NodeEvent, faults_to_off}
use Rattle.ccan_bus.specs.declared.decision.Decision.{Decision}
use Rattle.ccan_bus.specs.declared.decision.Decision.TheVariants as decision
use Rattle.ccan_bus.specs.declared.round_line.RoundLine.{RoundLine}
use Rattle.ccan_bus.specs.Controller.{WasTo, with_controller}
use Rattle.ccan_bus.specs.declared.bus.Bus.{Bus}
use Rattle.ccan_bus.specs.Bus.{GoesOn}
use Rattle.ccan_bus.specs.Past.{BusPast, recovers}
use Rattle.ccan_bus.specs.RoundReport.{RunsSteps}
use Rattle.ccan_endless.specs.declared.chip.ControllerStep.TheVariants.{Make}
use Rattle.ccan_endless.specs.declared.controller_changed.ControllerChanged.{ControllerChanged}
use Rattle.ccan_endless.specs.declared.controller_changed.ControllerBusy.{ControllerBusy}
use Rattle.ccan_endless.specs.Chip.{ChipHistory, controller_at}
use Rattle.ccan_endless.specs.ChipLaws.{changes_in}
use Rattle.ccan_endless.specs.ChipPort.{AddsController, AddsNoEvent, AddsNone, ChipPass, HasChanges}
use Rattle.ccan_chip.specs.Arrival.{Arrives, IsMade, left_behind, takes_part, unloaded}
use Rattle.ccan_chip.specs.declared.chip_report.ChipReport.{ChipReport}

-- loop back mode: LBack of the Test register counts if Test of the Control register is 1
abbrev pub loops_back : Controller → Bool
loops_back c = c.control.test && c.test.lback

-- The past of the bus as a round finds it, if the look showed this controller and it had these events: to the bus, a controller
-- that takes no part is like one that is off, and nothing is loaded then.
abbrev pub as_found : Controller → List NodeEvent → BusPast → BusPast
as_found c events past =
    if takes_part c then with_controller events (loops_back c) past
    else unloaded (with_controller faults_to_off false past)

-- what the controller's error counters went through
abbrev pub events_in : ChipHistory → List NodeEvent
events_in whole = node_events (changes_in whole)

-- the sender's event, or that of those who listen
abbrev pub fault_of : Bool → BusEvent
fault_of sends = if sends then event.SendFault else event.ReceiveFault

-- a fault with its last error code, if there is one
abbrev pub faulted : Bool → ℕ → Option (BusEvent × StatusEvent)
faulted sends lec = if lec == 0 then None else Some (fault_of sends, status.Fault lec)

-- what a decision is to the registers of a controller that takes part, if it leaves this last error code: in a collision, that of
-- a bit is left only to those who sent
abbrev pub own_of : Decision → ℕ → Option (BusEvent × StatusEvent)
own_of decision.Idle lec = None
own_of decision.Collision lec = faulted (lec == 4) lec
own_of (decision.Fault winner frame) lec = faulted (winner == 0) lec
own_of (decision.NoAck winner frame) lec = Some (event.SendNoAck, status.Fault 3)
own_of (decision.Finish object frame) lec = Some (event.Sent, status.Sent)
own_of (decision.Receipt winner frame) lec = Some (event.Received, status.Received)
own_of (decision.Passed winner frame) lec = None
own_of (decision.LoopBack object frame) lec = Some (event.Sent, status.Looped)

-- what a round is to the registers of a controller, by what was decided, if anything was
abbrev pub own_in : Bool → Option Decision → ℕ → Option (BusEvent × StatusEvent)
own_in takes None lec = None
own_in takes (Some decided) lec = if takes then own_of decided lec else None

-- the end of a round at the controller: its event, if it has one
abbrev pub Notes : Option (BusEvent × StatusEvent) → ℕ → ChipPass → ChipPass → Option (Result ControllerChanged ControllerBusy)
    → Type 0
Notes None tries old new told = AddsNone old new × (told ≡ None) × AddsNoEvent old new
Notes (Some own) tries old new None = ⊥
Notes (Some own) tries old new (Some outcome) = IsMade (Frame own.0 own.1) tries old new outcome

-- A round: the port comes to the bus, and what was loaded is dropped if the controller has left it; then a load, a decision and
-- the memory steps that are due, as the bus is with the controller that was found; and last, what all this was to the controller,
-- as one change of it. In between, its port makes no other step there. What was on the bus can't be played again, so this change
-- has as many tries as one may have, however few the steps have.
pub record ChipRound (terms : Terms) (line : RoundLine) (tries : ℕ) (old new : ChipPass) (past after : BusPast)
    (told : ChipReport) : Type 0 where
  pub looked : ChipPass
  pub first : Controller
  pub arrives : Arrives old looked first told.found
  pub between : ChipPass
  pub rests : AddsNone looked between
  pub sees : CanSee between.pass
  pub added : List Event
  pub adds : between.pass.seen ≡ added ++ looked.pass.seen
  pub runs : RunsSteps terms line tries looked.pass.seen added
      (as_found told.found (events_in looked.whole) (left_behind first past)) after told.report
  pub own : WasTo told.own (as_found told.found (events_in looked.whole) (left_behind first past)) after
  pub notes : Notes told.own most_tries between new told.noted

-- groups of recessive bits: one change of the controller, and every other node has them
pub record IsRecessive (groups : ℕ) (old new : ChipPass) (before after : Bus) (made : ControllerChanged) : Type 0 where
  pub adds : AddsController old new (Make (Recessive groups)) made.before
  pub left : made.after ≡ controller_after (Recessive groups) made.before
  pub quiet : AddsNoEvent old new
  pub others : GoesOn before after (λ past next. next ≡ recovers groups past)

-- each try was lost to a change of another port, and the port made no step at the controller
pub record IsRecessiveLost (tries : ℕ) (old new : ChipPass) (busy : ControllerBusy) : Type 0 where
  pub none : AddsNone old new
  pub lost : HasChanges tries old.whole new.whole
  pub quiet : AddsNoEvent old new
  pub all : busy.tries ≡ tries
  pub found : busy.controller ≡ controller_at new.whole
