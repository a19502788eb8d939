-- An order of ports. Source: this project's own.
use Rattle.std.specs.Prelude.{ℕ, List, count_by}
use Rattle.ccan_ram.specs.declared.port.PortName.{PortName}
use Rattle.ccan_ram.specs.Port.{same_port}

-- how often an order names a port
abbrev pub times : PortName → List PortName → ℕ
times name order = count_by (same_port name) order
