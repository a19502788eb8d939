-- The names in the order of a script's ports. Source: this project's own.
use Rattle.std.specs.Prelude.{ℕ, ◌≡◌, codes, List, Option, Some, None, is_some, option_and_then, unwrap_or, if◌then◌else◌}
use Rattle.std.specs.Str.{bytes_eq}
use Rattle.serde_json.specs.Data.{Data}
use Rattle.serde_json.specs.Find.{as_str}
use Rattle.ccan_ram.specs.declared.port.PortName.{PortName}
use Rattle.ccan_ram.specs.declared.port.PortName.TheVariants.{If1, If2, Bus}
use Rattle.ccan_script.specs.declared.line_fault.LineFault.{LineFault}
use Rattle.ccan_script.specs.LineFault.{shape_check}

-- the port of this name
unfoldable pub port_named : List ℕ → Option PortName
port_named word =
    if bytes_eq word (codes "if1") then Some If1
    else (if bytes_eq word (codes "if2") then Some If2
    else (if bytes_eq word (codes "bus") then Some Bus else None))

unfoldable pub port_in : Data → Option PortName
port_in d = option_and_then port_named (as_str d)

-- a name that is no port's is a fault
unfoldable pub port_fault : Data → Option LineFault
port_fault d = shape_check (is_some (port_in d))

-- the port that a value without fault names
unfoldable pub port_of : Data → PortName
port_of d = unwrap_or (port_in d) If1

abbrev pub NameSays : Data → PortName → Type 0
NameSays d port = port ≡ port_of d
