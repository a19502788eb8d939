-- Laws of the error counters and of the Status register, in the words of CAN Specification 2.0, "Fault Confinement", of
-- ISO 11898-1 and of the C_CAN User's Manual 1.2, "Status Register". They hold of every list of events.
use Rattle.std.specs.Prelude.{ℕ, ◌≡◌, ◌+◌, ◌<◌, ◌≤◌, ◌↔◌, Bool, true, false, ◌⊎◌, List, ◌∷◌, ◌++◌, Contains}
use Rattle.std.specs.List.{list_any}
use Rattle.ccan_confine.specs.declared.bus_event.BusEvent.{BusEvent}
use Rattle.ccan_confine.specs.declared.bus_event.BusEvent.TheVariants.{SendFault}
use Rattle.ccan_confine.specs.Counters.{Levels, NodeEvent, Bus, Groups, ClearInit, no_errors, is_off, off_limit}
use Rattle.ccan_confine.specs.Counters.{send_fault_step, most_rec, groups_to_return, groups_in, clears_init, levels_after_all}
use Rattle.ccan_confine.specs.Counters.{is_recovering_after, counts_of}
use Rattle.ccan_confine.specs.Counters.{reaches}
use Rattle.ccan_confine.specs.declared.status_event.StatusEvent.{StatusEvent}
use Rattle.ccan_confine.specs.StatusEvent.{is_transfer_or_error}
use Rattle.ccan_confine.specs.Status.{StatusStep, Happened, Enabled, WasRead, IsCause, IsPending, warning_limit, boff_of, ewarn_of}

-- no counter leaves its range, and the transmit error counter of a node that is on is below that of bus off
pub record AreBounded (levels : Levels) : Type 0 where
  pub tec : levels.tec < off_limit + send_fault_step
  pub rec : levels.rec ≤ most_rec
  pub tec_of_on : is_off levels ≡ false → levels.tec < off_limit

abbrev pub CountersAreBounded : Type 0
CountersAreBounded = (host : Bool) (events : List NodeEvent) → AreBounded (levels_after_all host events)

-- bus events don't change the counters of a node that is off
abbrev pub OffNodesKeepTheirCounters : Type 0
OffNodesKeepTheirCounters =
    (host : Bool) (events : List NodeEvent) (event : BusEvent)
    → is_off (levels_after_all host events) ≡ true
    → levels_after_all host (Bus event ∷ events) ≡ levels_after_all host events

-- the node is on before an event and off after it
pub record GoesOff (host : Bool) (event : NodeEvent) (earlier : List NodeEvent) : Type 0 where
  pub on_before : is_off (levels_after_all host earlier) ≡ false
  pub off_after : is_off (levels_after_all host (event ∷ earlier)) ≡ true

-- The event at which a node goes off is an error in a frame that it sent. So it is no missing acknowledgement, neither
-- of an active nor of a passive node, no receive error and nothing else.
abbrev pub OnlySendFaultsLeadOff : Type 0
OnlySendFaultsLeadOff =
    (host : Bool) (event : NodeEvent) (earlier : List NodeEvent) → GoesOff host event earlier → event ≡ Bus SendFault

-- a node is on if no error was ever found in its own frames, such as one that is alone on the bus
abbrev pub OnWithoutSendFaults : Type 0
OnWithoutSendFaults =
    (host : Bool) (events : List NodeEvent)
    → ¬ Contains events (Bus SendFault) → is_off (levels_after_all host events) ≡ false

-- a node that went off isn't back before 128 groups
abbrev pub NotBackBeforeTheGroups : Type 0
NotBackBeforeTheGroups =
    (host : Bool) (later earlier : List NodeEvent) (event : NodeEvent)
    → GoesOff host event earlier → groups_in later < groups_to_return
    → is_off (levels_after_all host (later ++ event ∷ earlier)) ≡ true

-- the controller that went off isn't back before Init was cleared
abbrev pub NotBackBeforeInit : Type 0
NotBackBeforeInit =
    (later earlier : List NodeEvent) (event : NodeEvent)
    → GoesOff true event earlier → clears_init later ≡ false
    → is_off (levels_after_all true (later ++ event ∷ earlier)) ≡ true

-- nor before 128 groups after the first clearing, however many came before it
abbrev pub NotBackBeforeTheGroupsAfterInit : Type 0
NotBackBeforeTheGroupsAfterInit =
    (later before earlier : List NodeEvent) (event : NodeEvent)
    → GoesOff true event earlier → clears_init before ≡ false → groups_in later < groups_to_return
    → is_off (levels_after_all true (later ++ ClearInit ∷ (before ++ event ∷ earlier))) ≡ true

-- another node that went off is back, with both counters 0, at the group that makes 128
abbrev pub BackWithTheGroups : Type 0
BackWithTheGroups =
    (number : ℕ) (later earlier : List NodeEvent) (event : NodeEvent)
    → GoesOff false event earlier
    → groups_in later < groups_to_return → groups_to_return ≤ number + groups_in later
    → levels_after_all false (Groups number ∷ (later ++ event ∷ earlier)) ≡ no_errors

-- and the controller at the one that makes 128 since the first clearing of Init, whatever later clearings there were
abbrev pub BackWithTheGroupsAfterInit : Type 0
BackWithTheGroupsAfterInit =
    (number : ℕ) (later before earlier : List NodeEvent) (event : NodeEvent)
    → GoesOff true event earlier → clears_init before ≡ false
    → groups_in later < groups_to_return → groups_to_return ≤ number + groups_in later
    → levels_after_all true (Groups number ∷ (later ++ ClearInit ∷ (before ++ event ∷ earlier))) ≡ no_errors

-- groups change nothing of a node that isn't recovering
abbrev pub GroupsCountOnlyWhileRecovering : Type 0
GroupsCountOnlyWhileRecovering =
    (host : Bool) (events : List NodeEvent) (number : ℕ)
    → is_recovering_after host events ≡ false
    → counts_of host (Groups number ∷ events) ≡ counts_of host events

-- a clearing of Init changes nothing if the node is on, if it isn't the controller, or if it is recovering already
abbrev pub OnlyTheFirstClearingCounts : Type 0
OnlyTheFirstClearingCounts =
    (host : Bool) (events : List NodeEvent)
    → (is_off (levels_after_all host events) ≡ false) ⊎ ((host ≡ false) ⊎ (is_recovering_after host events ≡ true))
    → counts_of host (ClearInit ∷ events) ≡ counts_of host events

abbrev pub is_event : StatusStep → Bool
is_event (Happened _ _) = true
is_event _ = false

-- after a read it isn't pending before the next event, whatever is enabled
abbrev pub ReadsClear : Type 0
ReadsClear =
    (later earlier : List StatusStep)
    → list_any is_event later ≡ false → ¬ IsPending (later ++ WasRead ∷ earlier)

-- enabling by itself makes nothing pending
abbrev pub EnablingMakesNothingPending : Type 0
EnablingMakesNothingPending =
    (sie eie : Bool) (steps : List StatusStep) → IsPending (Enabled sie eie ∷ steps) → IsPending steps

-- after an event it is pending exactly if it was before, or if the event is a cause: with SIE the end of a transfer
-- or a bus error, with EIE a change of BOff or EWarn
abbrev pub CausesMakePending : Type 0
CausesMakePending =
    (event : StatusEvent) (levels : Levels) (steps : List StatusStep)
    → IsPending (Happened event levels ∷ steps) ↔ (IsPending steps ⊎ IsCause event levels steps)

-- so an event that ends no transfer, is no bus error and leaves BOff and EWarn makes nothing pending, whatever EPass does
abbrev pub PassiveMakesNothingPending : Type 0
PassiveMakesNothingPending =
    (event : StatusEvent) (levels : Levels) (steps : List StatusStep)
    → is_transfer_or_error event ≡ false → is_off levels ≡ boff_of steps → reaches warning_limit levels ≡ ewarn_of steps
    → IsPending (Happened event levels ∷ steps) → IsPending steps
