-- The ports of which lines run alone before a race: what the member `before` names, and what is wrong with it. Source: this
-- project's own.
use Rattle.std.specs.Prelude.{ℕ, ◌≡◌, ◌≤◌, ◌<◌, List, Option, Some, None, Result, Ok, Err, nat_le, if◌then◌else◌}
use Rattle.serde_json.specs.Data.{Data}
use Rattle.ccan_ram.specs.declared.port.PortName.{PortName}
use Rattle.ccan_ram.specs.Port.{port_index}
use Rattle.ccan_line.specs.Limits.{most_names}
use Rattle.ccan_line.specs.Order.{times}
use Rattle.ccan_script.specs.declared.list_name.ListName.TheVariants.{Before}
use Rattle.ccan_script.specs.declared.script_error.ScriptError.{ScriptError}
use Rattle.ccan_script.specs.declared.script_error.ScriptError.TheVariants as error
use Rattle.ccan_script.specs.ListPlace.{list_fault}
use Rattle.ccan_script.specs.Order.{OrderPlace, named_ports, names, share}
use Rattle.ccan_script.specs.OrderName.{port_fault}

-- below, a port has this many lines
module _ (lines : PortName → ℕ) where
  -- the list names a port at most as often as it has lines
  unfoldable pub share_fault : Option Data → PortName → Option ScriptError
  share_fault o name = if nat_le (times name (named_ports o)) (lines name) then None else Some (error.Before name)

  -- the checks are those of an order: the names, and how often each port is named
  abbrev pub before_fault : Option Data → OrderPlace → Option ScriptError
  before_fault o (names place) = list_fault Before most_names port_fault o place
  before_fault o (share name) = share_fault o name

  -- the first port that is named more often than it has lines is reported
  abbrev pub ChecksShares : List PortName → Result (Unit {0}) ScriptError → Type 0
  ChecksShares before (Ok done) = (name : PortName) → times name before ≤ lines name
  ChecksShares before (Err e) =
      (name : PortName) × (e ≡ error.Before name) × (lines name < times name before)
      × ((earlier : PortName) → port_index earlier < port_index name → times earlier before ≤ lines earlier)
