-- Laws of the controller's registers over every list of changes, the newest first. Source: C_CAN User's Manual 1.2, "CAN
-- Control Register", "Status Register" and "Interrupt Register"; CAN Specification 2.0, "Fault Confinement".
use Rattle.std.specs.Prelude.{◌≡◌, Bool, true, false, Option, Some, None, unwrap_or, List, [], ◌∷◌, ◌++◌, if◌then◌else◌}
use Rattle.std.specs.List.{list_any}
use Rattle.ccan_confine.specs.declared.controller.Controller.{Controller}
use Rattle.ccan_confine.specs.declared.control_register.ControlRegister.{ControlRegister}
use Rattle.ccan_confine.specs.declared.controller_change.ControllerChange.{ControllerChange}
use Rattle.ccan_confine.specs.declared.controller_change.ControllerChange.TheVariants as change
use Rattle.ccan_confine.specs.StatusEvent.{is_sent, is_received}
use Rattle.ccan_confine.specs.Counters.{NodeEvent, Bus, Groups, ClearInit, AreAfter, is_off}
use Rattle.ccan_confine.specs.RegisterWords.{control_with}
use Rattle.ccan_confine.specs.Controller.{controller_after, new_controller, is_handlers, clears_init_of, shows_interrupt}
use Rattle.ccan_confine.specs.Controller.{IsController, packed}

-- the controller after a list of changes
unfoldable pub controller_of : List ControllerChange → Controller
controller_of [] = new_controller
controller_of (z ∷ earlier) = controller_after z (controller_of earlier)

-- what a change of this controller is to its error counters, before other events; with a reset they begin again
abbrev pub add_event : ControllerChange → Controller → List NodeEvent → List NodeEvent
add_event (change.Frame event noted) c events = Bus event ∷ events
add_event (change.Recessive groups) c events = Groups groups ∷ events
add_event (change.WriteControl control) c events = if clears_init_of c control then ClearInit ∷ events else events
add_event (change.WriteControlBits which to) c events =
    if clears_init_of c (control_with which to c.control) then ClearInit ∷ events else events
add_event change.Reset c events = []
add_event change.ResetDcan c events = []
add_event _ c events = events

-- what a list of changes is to them
unfoldable pub node_events : List ControllerChange → List NodeEvent
node_events [] = []
node_events (z ∷ earlier) = add_event z (controller_of earlier) (node_events earlier)

-- a word shows which controller packs to it
abbrev pub OneWord : Type 0
OneWord = (c d : Controller) → IsController c → IsController d → packed c ≡ packed d → c ≡ d

-- the error counters are those that fault confinement defines over that list
abbrev pub CountersAreAsDefined : Type 0
CountersAreAsDefined = (changes : List ControllerChange) → AreAfter true (node_events changes) (controller_of changes).counters

-- a reset of a D_CAN, which a host may make
abbrev pub is_dcan_reset : ControllerChange → Bool
is_dcan_reset change.ResetDcan = true
is_dcan_reset _ = false

-- no step of a host except a reset of a D_CAN changes TEC or REC
abbrev pub HostsLeaveTheCounters : Type 0
HostsLeaveTheCounters =
    (z : ControllerChange) (c : Controller) → is_handlers z ≡ false → is_dcan_reset z ≡ false
    → (controller_after z c).counters.levels ≡ c.counters.levels

-- a controller that goes off has Init
abbrev pub GoingOffSetsInit : Type 0
GoingOffSetsInit =
    (z : ControllerChange) (c : Controller) → is_off c.counters.levels ≡ false
    → is_off (controller_after z c).counters.levels ≡ true → (controller_after z c).control.init ≡ true

-- a joining of the message handler
abbrev pub is_joining : ControllerChange → Bool
is_joining change.Join = true
is_joining _ = false

-- from Init 1 on the controller has left the bus, whatever else changes, until the message handler joins
abbrev pub HasLeftUntilJoining : Type 0
HasLeftUntilJoining =
    (later earlier : List ControllerChange) → (controller_of earlier).control.init ≡ true
    → list_any is_joining later ≡ false → (controller_of (later ++ earlier)).has_left ≡ true

-- after a read of the Status register no status interrupt is shown before the next change
abbrev pub StatusReadsClear : Type 0
StatusReadsClear =
    (c : Controller)
    → (shows_interrupt (controller_after change.ReadStatus c) ≡ false)
    × (shows_interrupt (controller_after change.ReadAndClearStatus c) ≡ false)

-- another Control register makes no other status interrupt pending: SIE and EIE mask only what is shown
abbrev pub MasksLoseNothing : Type 0
MasksLoseNothing =
    (z : ControllerChange) (c : Controller) (control : ControlRegister)
    → ((controller_after z (record c { control = control })).transfer_pending ≡ (controller_after z c).transfer_pending)
    × ((controller_after z (record c { control = control })).level_pending ≡ (controller_after z c).level_pending)

-- what gives TxOk: the end of a frame that was sent sets it, a write, a clearing read or a reset gives it, all else leaves it
abbrev pub tx_ok_given : ControllerChange → Option Bool
tx_ok_given (change.Frame event noted) = if is_sent noted then Some true else None
tx_ok_given change.ReadAndClearStatus = Some false
tx_ok_given (change.WriteStatus flags) = Some flags.tx_ok
tx_ok_given change.Reset = Some false
tx_ok_given change.ResetDcan = Some false
tx_ok_given _ = None

-- and RxOk
abbrev pub rx_ok_given : ControllerChange → Option Bool
rx_ok_given (change.Frame event noted) = if is_received noted then Some true else None
rx_ok_given change.ReadAndClearStatus = Some false
rx_ok_given (change.WriteStatus flags) = Some flags.rx_ok
rx_ok_given change.Reset = Some false
rx_ok_given change.ResetDcan = Some false
rx_ok_given _ = None

-- what the newest change that gives something gives; at the opening 0
unfoldable pub newest_given : (ControllerChange → Option Bool) → List ControllerChange → Bool
newest_given given [] = false
newest_given given (z ∷ earlier) = unwrap_or (given z) (newest_given given earlier)

-- TxOk and RxOk are what was given last
abbrev pub FlagsAreGivenLast : Type 0
FlagsAreGivenLast =
    (changes : List ControllerChange)
    → ((controller_of changes).status.tx_ok ≡ newest_given tx_ok_given changes)
    × ((controller_of changes).status.rx_ok ≡ newest_given rx_ok_given changes)
