-- The order in which the ports of a script run: what its member `order` names, what the order is if there is none, and what is
-- wrong with it. Source: this project's own.
use Rattle.std.specs.Prelude.{ℕ, ◌≡◌, ◌≢◌, ◌<◌, ◌==◌, ◌++◌, List, [], ◌∷◌, Option, Some, None}
use Rattle.std.specs.Prelude.{Result, Ok, Err, map, replicate, if◌then◌else◌}
use Rattle.serde_json.specs.Data.{Data}
use Rattle.ccan_ram.specs.declared.port.PortName.{PortName}
use Rattle.ccan_ram.specs.declared.port.PortName.TheVariants as port
use Rattle.ccan_ram.specs.Port.{port_index}
use Rattle.ccan_script.specs.declared.list_name.ListName.TheVariants.{Order}
use Rattle.ccan_script.specs.declared.script_error.ScriptError.{ScriptError}
use Rattle.ccan_script.specs.declared.script_error.ScriptError.TheVariants as error
use Rattle.ccan_line.specs.Limits.{most_names}
use Rattle.ccan_line.specs.Order.{times}
use Rattle.ccan_script.specs.Json.{lines_in}
use Rattle.ccan_script.specs.OrderName.{port_fault, port_of}
use Rattle.ccan_script.specs.ListPlace.{ListPlace, list_fault, number_in_list}

-- the ports that the member `order` names
abbrev pub named_ports : Option Data → List PortName
named_ports o = map port_of (lines_in o)

-- below, a port has this many lines
module _ (lines : PortName → ℕ) where
  -- all lines of IF1, then all of IF2, then all of the bus
  abbrev pub default_order : List PortName
  default_order =
      replicate (lines port.If1) port.If1 ++ (replicate (lines port.If2) port.If2 ++ replicate (lines port.Bus) port.Bus)

  -- the order that a member gives, if there is one
  unfoldable pub order_by : Option Data → List PortName
  order_by None = default_order
  order_by (Some d) = named_ports (Some d)

  -- the order has to name a port as often as it has lines
  unfoldable pub times_fault : Option Data → PortName → Option ScriptError
  times_fault None name = None
  times_fault (Some d) name = if times name (named_ports (Some d)) == lines name then None else Some (error.Order name)

-- the checks of the order: its names, and how often it names each port
pub data OrderPlace : Type 0 where
  names : ListPlace → OrderPlace
  share : PortName → OrderPlace

abbrev pub number_in_order : OrderPlace → List ℕ
number_in_order (names place) = 0 ∷ number_in_list place
number_in_order (share name) = 1 ∷ port_index name ∷ []

abbrev pub order_fault : (PortName → ℕ) → Option Data → OrderPlace → Option ScriptError
order_fault lines o (names place) = list_fault Order most_names port_fault o place
order_fault lines o (share name) = times_fault lines o name

-- the first port that an order doesn't name as often as it has lines is reported
abbrev pub ChecksTimes : (PortName → ℕ) → List PortName → Result (Unit {0}) ScriptError → Type 0
ChecksTimes lines order (Ok done) = (name : PortName) → times name order ≡ lines name
ChecksTimes lines order (Err (error.Order name)) =
    (times name order ≢ lines name)
    × ((earlier : PortName) → port_index earlier < port_index name → times earlier order ≡ lines earlier)
ChecksTimes lines order (Err e) = ⊥
