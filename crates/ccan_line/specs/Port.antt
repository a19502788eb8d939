-- The lines of one port, from what they work on as it opens. Source: this project's own.
use Rattle.std.specs.Prelude.{ℕ, List, length, Option}
use Rattle.ccan_object.specs.Interface.{zero_registers}
use Rattle.ccan_ram.specs.declared.port.PortName.{PortName}
use Rattle.ccan_ram.specs.declared.port.PortName.TheVariants.{If1, If2, Bus}
use Rattle.ccan_ram.specs.declared.event.Event.{Event}
use Rattle.ccan_ram.specs.Terms.{Terms}
use Rattle.ccan_bus.specs.Past.{opened}
use Rattle.ccan_line.specs.declared.line_answer.LineAnswer.{LineAnswer}
use Rattle.ccan_line.specs.Script.{ScriptFields}
use Rattle.ccan_line.specs.Gate.{ran}
use Rattle.ccan_line.specs.Lines.{Run}
use Rattle.ccan_line.specs.Host.{HostLineMeans}
use Rattle.ccan_line.specs.BusPort.{BusLineMeans}

-- how many lines a port has
abbrev pub count_of : ScriptFields → PortName → ℕ
count_of script If1 = length script.if1
count_of script If2 = length script.if2
count_of script Bus = length script.bus

-- the lines of a port that ran, a host's from registers that read 0, the bus's from the bus as it opens
abbrev pub PortMeans : Terms → ScriptFields → PortName → Option ℕ → List Event → List Event → List LineAnswer → Type 0
PortMeans terms script If1 stop seen added answers =
    Run (HostLineMeans terms script.tries) zero_registers (ran stop script.if1) seen added answers
PortMeans terms script If2 stop seen added answers =
    Run (HostLineMeans terms script.tries) zero_registers (ran stop script.if2) seen added answers
PortMeans terms script Bus stop seen added answers =
    Run (BusLineMeans terms script.tries) (opened script.nodes) (ran stop script.bus) seen added answers
