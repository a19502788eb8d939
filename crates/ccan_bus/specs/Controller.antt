-- A controller whose registers are outside of the bus: they are given to the bus before a round, and what the round was to
-- them is read off the bus afterwards. Source: this project's own.
use Rattle.std.specs.Prelude.{ℕ, ◌≡◌, Bool, List, [], ◌∷◌, Option, Some, None, if◌then◌else◌}
use Rattle.ccan_confine.specs.declared.bus_event.BusEvent.{BusEvent}
use Rattle.ccan_confine.specs.declared.status_event.StatusEvent.{StatusEvent}
use Rattle.ccan_confine.specs.declared.status_event.StatusEvent.TheVariants as status
use Rattle.ccan_confine.specs.Counters.{Levels, NodeEvent, Bus}
use Rattle.ccan_confine.specs.Status.{StatusStep, Happened}
use Rattle.ccan_bus.specs.Past.{BusPast, is_controller, levels_at}

-- the controller had these events, the other nodes what they had
unfoldable pub events_with : List NodeEvent → BusPast → ℕ → List NodeEvent
events_with events past node = if is_controller node then events else past.events node

-- the past of a bus whose controller had these events, with nothing in its Status register yet, and this loop back mode
abbrev pub with_controller : List NodeEvent → Bool → BusPast → BusPast
with_controller events loops past =
    record past { events = events_with events past; steps = []; loops_back = loops }

-- an event before the steps of a Status register that knows of no frame that was sent and received at once: Sent and then
-- Received
abbrev pub add_status : StatusEvent → Levels → List StatusStep → List StatusStep
add_status status.Looped levels steps = Happened status.Received levels ∷ Happened status.Sent levels ∷ steps
add_status noted levels steps = Happened noted levels ∷ steps

-- what a round was to the registers of the controller: an event of its error counters with one of its Status register, or
-- nothing
abbrev pub WasTo : Option (BusEvent × StatusEvent) → BusPast → BusPast → Type 0
WasTo None past after = (after.events 0 ≡ past.events 0) × (after.steps ≡ past.steps)
WasTo (Some own) past after =
    (after.events 0 ≡ Bus own.0 ∷ past.events 0) × (after.steps ≡ add_status own.1 (levels_at after 0) past.steps)
