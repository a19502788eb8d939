-- What happened to a bus, and what one call adds to it. A bus stores none of it: it is a past of the bus as a history is one
-- of the message RAM. Source: this project's own; its lists are those of the fault confinement and of the Status register.
use Rattle.std.specs.Prelude.{ℕ, ◌==◌, Bool, false, ◌&&◌, not, nat_le, List, [], ◌∷◌, Option, None, if◌then◌else◌}
use Rattle.ccan_object.specs.declared.record.Record.{Record}
use Rattle.ccan_confine.specs.declared.bus_event.BusEvent.{BusEvent}
use Rattle.ccan_confine.specs.declared.bus_event.BusEvent.TheVariants.{Sent}
use Rattle.ccan_confine.specs.declared.status_event.StatusEvent.{StatusEvent}
use Rattle.ccan_confine.specs.declared.status_event.StatusEvent.TheVariants as status
use Rattle.ccan_confine.specs.Counters.{Levels, is_off, NodeEvent, Bus, Groups, ClearInit, levels_after_all, is_recovering_after}
use Rattle.ccan_confine.specs.Status.{StatusStep, Happened}
use Rattle.ccan_bus.specs.declared.choice.Choice.{Choice}
use Rattle.ccan_bus.specs.declared.choice.Choice.TheVariants.{InTurn, AtOnce}

pub record BusPast : Type 0 where
  -- how many other nodes there are; node 0 is the controller
  pub others : ℕ
  -- what happened to each node, the newest first
  pub events : ℕ → List NodeEvent
  -- what happened to the Status register, the newest first
  pub steps : List StatusStep
  -- the object whose transmission was started, and its record after the start
  pub loaded : Option (ℕ × Record)
  -- loop back mode
  pub loops_back : Bool
  -- how it chooses what it sends next
  pub choice : Choice

abbrev pub is_controller : ℕ → Bool
is_controller node = node == 0

-- a bus as it opens
abbrev pub opened_with : Choice → ℕ → BusPast
opened_with choice others =
    record { others = others; events = λ node. []; steps = []; loaded = None; loops_back = false; choice = choice }

-- one that chooses object after object, as scripts have it
abbrev pub opened : ℕ → BusPast
opened others = opened_with InTurn others

-- and one that chooses at one moment
abbrev pub opened_at_once : ℕ → BusPast
opened_at_once others = opened_with AtOnce others

-- the error counters of a node
abbrev pub levels_at : BusPast → ℕ → Levels
levels_at past node = levels_after_all (is_controller node) (past.events node)

-- a node of the bus is on if it isn't bus off
unfoldable pub is_on : BusPast → ℕ → Bool
is_on past node = nat_le node past.others && not (is_off (levels_at past node))

-- loop back mode is set, and the controller is on
abbrev pub hears_itself : BusPast → Bool
hears_itself past = past.loops_back && is_on past 0

-- only the controller has this event
unfoldable pub with_own : NodeEvent → BusPast → ℕ → List NodeEvent
with_own event past node = if is_controller node then event ∷ past.events node else past.events node

-- the error counters of the controller after that
abbrev pub own_levels : NodeEvent → BusPast → Levels
own_levels event past = levels_after_all (is_controller 0) (with_own event past 0)

-- ---- what a transfer or its fault adds

-- each node that is on has its event
unfoldable pub events_after : (ℕ → BusEvent) → BusPast → ℕ → List NodeEvent
events_after event past node = if is_on past node then Bus (event node) ∷ past.events node else past.events node

-- if the controller is on, the Status register has this event, with the counters as they are then
unfoldable pub steps_after : (ℕ → BusEvent) → StatusEvent → BusPast → List StatusStep
steps_after event noted past =
    if is_on past 0 then Happened noted (levels_after_all (is_controller 0) (events_after event past 0)) ∷ past.steps
    else past.steps

-- a transfer or its fault ends: each node that is on has its event, the Status register this one, and nothing is loaded
-- any more
abbrev pub happens : (ℕ → BusEvent) → StatusEvent → BusPast → BusPast
happens event noted past =
    record {
      others = past.others;
      events = events_after event past;
      steps = steps_after event noted past;
      loaded = None;
      loops_back = past.loops_back;
      choice = past.choice;
    }

-- in loop back mode a transfer ends: the controller has sent, the Status register has Sent and then Received, and nothing
-- is loaded any more
abbrev pub sends_to_itself : BusPast → BusPast
sends_to_itself past =
    record {
      others = past.others;
      events = with_own (Bus Sent) past;
      steps =
          Happened status.Received (own_levels (Bus Sent) past) ∷ Happened status.Sent (own_levels (Bus Sent) past) ∷ past.steps;
      loaded = None;
      loops_back = past.loops_back;
      choice = past.choice;
    }

-- ---- what a clearing of Init and recessive bits add

-- Init is cleared: the controller has that event, and the Status register follows the counters
abbrev pub clears_init : BusPast → BusPast
clears_init past =
    record past {
      events = with_own ClearInit past;
      steps = Happened status.Level (own_levels ClearInit past) ∷ past.steps;
    }

-- each node has this many groups of eleven recessive bits
unfoldable pub with_groups : ℕ → BusPast → ℕ → List NodeEvent
with_groups groups past node = Groups groups ∷ past.events node

-- at least one group counts for the controller
abbrev pub is_recovery : ℕ → BusPast → Bool
is_recovery groups past = nat_le 1 groups && is_recovering_after (is_controller 0) (past.events 0)

-- groups of recessive bits: each node has them, and the Status register has one event, however many they are
abbrev pub recovers : ℕ → BusPast → BusPast
recovers groups past =
    record past {
      events = with_groups groups past;
      steps =
          Happened (if is_recovery groups past then status.Recovery else status.Level)
          (levels_after_all (is_controller 0) (with_groups groups past 0))
          ∷ past.steps;
    }
