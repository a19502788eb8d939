-- The error counters of a node over the whole list of what happened to it, and the states that they mean: CAN
-- Specification 2.0, "Fault Confinement", and ISO 11898-1. That going off sets Init and the way back waits for its
-- clearing: C_CAN User's Manual 1.2, "CAN Control Register". What is this project's own is marked (own).
use Rattle.std.specs.Prelude.{ℕ, ◌≡◌, ◌==◌, ◌+◌, ◌-◌, ◌/◌, nat_lt, Option, Some, None, Bool, true, false, ◌&&◌, ◌||◌, not, nat_le, min, List, [], ◌∷◌, replicate, sum_by}
use Rattle.std.specs.Prelude.{if◌then◌else◌}
use Rattle.std.specs.List.{list_any}
use Rattle.ccan_confine.specs.declared.bus_event.BusEvent.{BusEvent}
use Rattle.ccan_confine.specs.declared.bus_event.BusEvent.TheVariants.{Sent, Received, SendFault, SendNoAck, ReceiveFault}
use Rattle.ccan_confine.specs.declared.node_state.NodeState.{NodeState}
use Rattle.ccan_confine.specs.declared.node_state.NodeState.TheVariants.{Active, Passive, Off}

-- from this count of either counter on a node is error passive
abbrev pub passive_limit : ℕ
passive_limit = 128

-- from this transmit error count on a node is bus off
abbrev pub off_limit : ℕ
off_limit = 256

-- what an error in a node's own frame adds to its transmit error counter
abbrev pub send_fault_step : ℕ
send_fault_step = 8

-- the receive error counter goes no higher (own)
abbrev pub most_rec : ℕ
most_rec = 255

-- what a received frame makes of a receive error counter that is above 127: the standard allows 119 to 127 (119 own)
abbrev pub rec_after_passive : ℕ
rec_after_passive = 119

-- this many groups of eleven recessive bits bring a node back (for the controller own)
abbrev pub groups_to_return : ℕ
groups_to_return = 128

-- the transmit and the receive error counter
pub record Levels : Type 0 where
  pub tec : ℕ
  pub rec : ℕ

abbrev pub no_errors : Levels
no_errors = record { tec = 0; rec = 0 }

-- a counter is at least this limit
abbrev pub reaches : ℕ → Levels → Bool
reaches limit levels = nat_le limit levels.tec || nat_le limit levels.rec

-- bus off
abbrev pub is_off : Levels → Bool
is_off levels = nat_le off_limit levels.tec

abbrev pub state_of : Levels → NodeState
state_of levels = if is_off levels then Off else (if reaches passive_limit levels then Passive else Active)

-- the table for a node that is on; that a passive node sees no dominant bit in its flag, and so counts no missing
-- acknowledgement, is (own)
abbrev pub by_table : BusEvent → Levels → Levels
by_table Sent levels = record levels { tec = levels.tec - 1 }
by_table Received levels =
    record levels { rec = (if nat_le passive_limit levels.rec then rec_after_passive else levels.rec - 1) }
by_table SendFault levels = record levels { tec = levels.tec + send_fault_step }
by_table SendNoAck levels =
    if reaches passive_limit levels then levels else record levels { tec = levels.tec + send_fault_step }
by_table ReceiveFault levels = record levels { rec = min (levels.rec + 1) most_rec }

-- the counters of a node that is off don't change by bus events
abbrev pub levels_after : BusEvent → Levels → Levels
levels_after event levels = if is_off levels then levels else by_table event levels

-- What happens to a node, in a list with the newest event first: a bus event, some groups of eleven recessive bits,
-- or a clearing of Init. A clearing elsewhere than in bus off, or of another node than the controller, does nothing (own).
pub data NodeEvent : Type 0 where
  Bus : BusEvent → NodeEvent
  Groups : ℕ → NodeEvent
  ClearInit : NodeEvent

abbrev pub groups_of : NodeEvent → ℕ
groups_of (Bus _) = 0
groups_of (Groups number) = number
groups_of ClearInit = 0

-- how many groups are in a list
abbrev pub groups_in : List NodeEvent → ℕ
groups_in events = sum_by groups_of events

abbrev pub is_clearing : NodeEvent → Bool
is_clearing (Bus _) = false
is_clearing (Groups _) = false
is_clearing ClearInit = true

-- Init was cleared in a list
abbrev pub clears_init : List NodeEvent → Bool
clears_init events = list_any is_clearing events

-- A life of a node begins as it is opened or comes back. These are the counters after a life: by the table, from 0 and 0.
unfoldable pub levels_of : List NodeEvent → Levels
levels_of [] = no_errors
levels_of (Bus event ∷ earlier) = levels_after event (levels_of earlier)
levels_of (Groups _ ∷ earlier) = levels_of earlier
levels_of (ClearInit ∷ earlier) = levels_of earlier

-- the part of a life since the node went off, without the event at which it did; nothing if it is on
unfoldable pub since_off : List NodeEvent → List NodeEvent
since_off [] = []
since_off (event ∷ earlier) = if is_off (levels_of earlier) then event ∷ since_off earlier else []

-- the part of a list since the first clearing of Init in it, without that; nothing if there is none
unfoldable pub since_clearing : List NodeEvent → List NodeEvent
since_clearing [] = []
since_clearing (event ∷ earlier) = if clears_init earlier then event ∷ since_clearing earlier else []

-- the part of a life whose groups count: since the node went off, for the controller since the first clearing of Init
-- after that
abbrev pub counted : Bool → List NodeEvent → List NodeEvent
counted host life = if host then since_clearing (since_off life) else since_off life

-- the node is back: enough groups are in that part
abbrev pub is_back : Bool → List NodeEvent → Bool
is_back host life = nat_le groups_to_return (groups_in (counted host life))

-- the part of a list since the node was opened or last came back
unfoldable pub life_of : Bool → List NodeEvent → List NodeEvent
life_of host [] = []
life_of host (event ∷ earlier) =
    if is_back host (event ∷ life_of host earlier) then [] else event ∷ life_of host earlier

-- the counters after a list
abbrev pub levels_after_all : Bool → List NodeEvent → Levels
levels_after_all host events = levels_of (life_of host events)

-- off, and for the controller Init was cleared since it went off
abbrev pub is_recovering_after : Bool → List NodeEvent → Bool
is_recovering_after host events =
    is_off (levels_after_all host events) && (not host || clears_init (since_off (life_of host events)))

-- What a value of `Counters` says of the list that led to it: the counters, and what the next event needs beside them.
pub record Counts : Type 0 where
  -- whether the node is the controller
  pub host : Bool
  pub levels : Levels
  -- whether Init was cleared since the controller went off
  pub init_cleared : Bool
  -- the groups that count so far
  pub groups : ℕ

-- the value after one life
abbrev pub counts_in_life : Bool → List NodeEvent → Counts
counts_in_life host life =
    record {
      host = host;
      levels = levels_of life;
      init_cleared = host && clears_init (since_off life);
      groups = groups_in (counted host life);
    }

-- the value after a list
unfoldable pub counts_of : Bool → List NodeEvent → Counts
counts_of host events = counts_in_life host (life_of host events)

-- this is the value of the controller or of another node after this list
abbrev pub AreAfter : Bool → List NodeEvent → Counts → Type 0
AreAfter host events counts = counts ≡ counts_of host events

-- after each list that led to the old value, and this event, it is the new one
abbrev pub AddsEvent : NodeEvent → Counts → Counts → Type 0
AddsEvent event old new =
    (host : Bool) (events : List NodeEvent) → AreAfter host events old → AreAfter host (event ∷ events) new

-- a node that was just opened or has just come back
abbrev pub new_counts : Bool → Counts
new_counts host = record { host = host; levels = no_errors; init_cleared = false; groups = 0 }

-- the numbers are some that the counters of a node without a host can have: TEC is less than its greatest step beyond bus off, and
-- groups of recessive bits count only while it is off
abbrev pub are_node_counts : ℕ → ℕ → Bool
are_node_counts tec groups =
    nat_lt tec (off_limit + send_fault_step)
    && (if nat_le off_limit tec then nat_lt groups groups_to_return else groups == 0)

-- a node without a host, with these counters
abbrev pub node_counts : ℕ → ℕ → ℕ → Option Counts
node_counts tec rec groups =
    if are_node_counts tec groups
    then Some (record { host = false; levels = record { tec = tec; rec = rec }; init_cleared = false; groups = groups })
    else None

-- as many faults of own frames as lead a new node off
abbrev pub faults_to_off : List NodeEvent
faults_to_off = replicate (off_limit / send_fault_step) (Bus SendFault)

-- what a bus event makes of the value
abbrev pub counts_after : BusEvent → Counts → Counts
counts_after event counts = record counts { levels = levels_after event counts.levels }

-- what a clearing of Init makes of it
abbrev pub counts_cleared : Counts → Counts
counts_cleared counts = record counts { init_cleared = counts.init_cleared || (counts.host && is_off counts.levels) }

-- the groups to come count
abbrev pub is_recovering : Counts → Bool
is_recovering counts = is_off counts.levels && (not counts.host || counts.init_cleared)
