-- A line of some port of three: what the lines of all of them work on, and what one line makes of it. Source: this project's
-- own.
use Rattle.std.specs.Prelude.{ℕ, ◌≡◌, ◌≢◌, List}
use Rattle.ccan_object.specs.Interface.{Registers, zero_registers}
use Rattle.ccan_ram.specs.declared.port.PortName.{PortName}
use Rattle.ccan_ram.specs.declared.port.PortName.TheVariants.{If1, If2, Bus}
use Rattle.ccan_ram.specs.declared.event.Event.{Event}
use Rattle.ccan_ram.specs.History.{BeginsWith, events_of}
use Rattle.ccan_ram.specs.Terms.{Terms, one_thread_terms}
use Rattle.ccan_bus.specs.Past.{BusPast, opened}
use Rattle.ccan_line.specs.declared.host_line.HostLine.{HostLine}
use Rattle.ccan_line.specs.declared.bus_line.BusLine.{BusLine}
use Rattle.ccan_line.specs.declared.line_answer.LineAnswer.{LineAnswer}
use Rattle.ccan_line.specs.Script.{ScriptFields}
use Rattle.ccan_line.specs.Host.{HostLineMeans}
use Rattle.ccan_line.specs.BusPort.{BusLineMeans}

-- a line of some port
pub data PortLine : Type 0 where
  of_if1 : HostLine → PortLine
  of_if2 : HostLine → PortLine
  of_bus : BusLine → PortLine

-- what the lines of the three ports work on
pub record Three : Type 0 where
  pub first : Registers
  pub second : Registers
  pub bus : BusPast

-- as a run begins: registers that read 0, and a bus to which nothing happened
abbrev pub opening : ℕ → Three
opening nodes = record { first = zero_registers; second = zero_registers; bus = opened nodes }

-- a line of some port works on what is that port's, under its terms, and the rest stays; its answer is reported with the port
abbrev pub PortLineMeans : (PortName → Terms) → ℕ → PortLine → Three → List Event → List Event → PortName × LineAnswer
    → Three → Type 0
PortLineMeans terms tries (of_if1 line) three seen added reply left =
    (after : Registers) × (reply.0 ≡ If1) × HostLineMeans (terms If1) tries line three.first seen added reply.1 after
    × (left ≡ record three { first = after })
PortLineMeans terms tries (of_if2 line) three seen added reply left =
    (after : Registers) × (reply.0 ≡ If2) × HostLineMeans (terms If2) tries line three.second seen added reply.1 after
    × (left ≡ record three { second = after })
PortLineMeans terms tries (of_bus line) three seen added reply left =
    (after : BusPast) × (reply.0 ≡ Bus) × BusLineMeans (terms Bus) tries line three.bus seen added reply.1 after
    × (left ≡ record three { bus = after })

-- the terms of a script's ports over a plain memory, where nothing contends and nobody else acts
abbrev pub terms_of : ScriptFields → PortName → Terms
terms_of script port = one_thread_terms script.profile port script.quota

-- the line of a turn of a port starts from this history: it has all that any port had seen, and of the port itself no
-- other events. The others make none in the turn
pub record StartsFrom (port : PortName) (before after : PortName → List Event) (start : List Event) : Type 0 where
  pub begins : (name : PortName) → BeginsWith start (before name)
  pub own : events_of port start ≡ events_of port (before port)
  pub others : (name : PortName) → name ≢ port → events_of name (after name) ≡ events_of name (before name)
