-- How many lines the ports of a script have. Source: this project's own.
use Rattle.std.specs.Prelude.{ℕ}
use Rattle.ccan_ram.specs.declared.port.PortName.{PortName}
use Rattle.ccan_ram.specs.declared.port.PortName.TheVariants.{If1, If2, Bus}
use Rattle.ccan_line.specs.declared.per_port.PerPort.{PerPort}

abbrev pub count_of : PerPort ℕ → PortName → ℕ
count_of counts If1 = counts.if1
count_of counts If2 = counts.if2
count_of counts Bus = counts.bus
