-- What the lines of all three ports work on in one thread, and what a turn of one of them makes of it, over a shared
-- memory. Source: this project's own.
use Rattle.std.specs.Prelude.{ℕ, ◌≡◌, Bool, List, ◌∷◌, ◌++◌, All, drop}
use Rattle.ccan_ram.specs.declared.port.PortName.{PortName}
use Rattle.ccan_ram.specs.declared.port.PortName.TheVariants.{If1, If2, Bus}
use Rattle.ccan_ram.specs.declared.event.Event.{Event}
use Rattle.ccan_ram.specs.SharedRam.{Memory, terms_of}
use Rattle.ccan_bus.specs.Bus.{LedTo}
use Rattle.ccan_line.specs.declared.line_answer.LineAnswer.{LineAnswer}
use Rattle.ccan_line.specs.Script.{ScriptFields}
use Rattle.ccan_run.specs.declared.ports.Ports.{Ports}
use Rattle.ccan_line.specs.BusPort.{TakesLine}
use Rattle.ccan_line.specs.Turn.{PortLine, Three, PortLineMeans, StartsFrom}
use Rattle.ccan_run.specs.Ordered.{joined}

-- how many lines of a port have run
abbrev pub next_of : Ports → PortName → ℕ
next_of ports If1 = ports.if1.next
next_of ports If2 = ports.if2.next
next_of ports Bus = ports.bus.next

-- the lines that are left, in an order
abbrev pub rest : ScriptFields → Ports → List PortName → List PortLine
rest script ports order =
    joined order (drop ports.if1.next script.if1) (drop ports.if2.next script.if2) (drop ports.bus.next script.bus)

-- this may have led to the ports
pub record HaveLedTo (three : Three) (ports : Ports) : Type 0 where
  pub first : three.first ≡ ports.if1.side
  pub second : three.second ≡ ports.if2.side
  pub bus : LedTo three.bus ports.bus.side

-- the bus can run each line that the script has for it
abbrev pub CanRun : ScriptFields → Ports → Type 0
CanRun script ports = All (TakesLine script.profile ports.bus.side) script.bus

-- one line of a port has run over a shared memory, with this answer: it was the next one, and what its port has seen
-- and what the ports work on go on by it
pub record TakesTurn (contends : ℕ → ℕ → Bool) (memory : Memory) (script : ScriptFields)
    (before after : PortName → List Event) (old new : Ports) (port : PortName) (reply : LineAnswer) : Type 0 where
  pub line : PortLine
  pub next : (order : List PortName) → rest script old (port ∷ order) ≡ line ∷ rest script new order
  pub start : List Event
  pub starts : StartsFrom port before after start
  pub each : (three : Three) → HaveLedTo three old
      → (added : List Event) × (left : Three) × (after port ≡ added ++ start) × HaveLedTo left new
      × PortLineMeans (terms_of contends memory) script.tries line three start added (port, reply) left
