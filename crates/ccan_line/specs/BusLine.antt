-- The nodes and numbers of the bus's lines are in their ranges. Source: this project's own.
use Rattle.std.specs.Prelude.{ℕ, ◌≤◌, Bool, true, false, List, Option, Some, None}
use Rattle.std.specs.Coded.{le_prop, ×_prop, Unit-prop}
use Rattle.ccan_accept.specs.declared.frame.Frame.{Frame}
use Rattle.ccan_bus.specs.declared.round_line.RoundLine.{RoundLine}
use Rattle.ccan_bus.specs.RoundLine.{AreSenders}
use Rattle.ccan_line.specs.declared.bus_line.BusLine.{BusLine}
use Rattle.ccan_line.specs.declared.bus_line.BusLine.TheVariants.{Load, Round, Interrupt, Flags, Controller}
use Rattle.ccan_line.specs.ControllerLine as controller
use Rattle.ccan_line.specs.ControllerLine.{ControllerFits, ControllerFits-prop}
use Rattle.ccan_line.specs.Lines.{All-prop}

-- the round that a line is
abbrev pub round_of : BusLine → Option RoundLine
round_of (Round round) = Some round
round_of other = None

-- the line loads an object, or plays a round
abbrev pub moves_messages : BusLine → Bool
moves_messages Load = true
moves_messages (Round round) = true
moves_messages Interrupt = false
moves_messages (Flags flag) = false
moves_messages (Controller line) = false

-- the line's answer has the Status register in it, or goes by its interrupt
abbrev pub asks_status : BusLine → Bool
asks_status Load = false
asks_status (Round round) = false
asks_status Interrupt = true
asks_status (Flags flag) = false
asks_status (Controller line) = controller.shows_status line

-- the line's answer has error counters in it, or the state that they mean
abbrev pub shows_counters : BusLine → Bool
shows_counters Load = false
shows_counters (Round round) = false
shows_counters Interrupt = false
shows_counters (Flags flag) = false
shows_counters (Controller line) = controller.shows_counters line

-- the nodes that a line names are among this many others and the controller, and its numbers are in their ranges
abbrev pub BusFits : ℕ → BusLine → Type 0
BusFits nodes (Round round) = AreSenders nodes round.send.items
BusFits nodes (Controller line) = ControllerFits nodes line
BusFits nodes line = Unit {0}

pub AreSenders-prop : (nodes : ℕ) (sends : List (ℕ × Frame)) → IsProp (AreSenders nodes sends)
AreSenders-prop nodes sends a b = λ i. record {
  others = All-prop (λ s. (1 ≤ s.0) × (s.0 ≤ nodes)) (λ s. ×_prop le_prop le_prop) sends a.others b.others i;
  once = λ node. le_prop (a.once node) (b.once node) i;
}

-- there is one proof of it
pub BusFits-prop : (nodes : ℕ) (line : BusLine) → IsProp (BusFits nodes line)
BusFits-prop nodes Load = Unit-prop
BusFits-prop nodes (Round round) = AreSenders-prop nodes round.send.items
BusFits-prop nodes Interrupt = Unit-prop
BusFits-prop nodes (Flags flag) = Unit-prop
BusFits-prop nodes (Controller line) = ControllerFits-prop nodes line
