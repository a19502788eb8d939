-- The checks of a list of lines, each at its place. Source: this project's own.
use Rattle.std.specs.Prelude.{ℕ, List, [], ◌∷◌, Option, Some, None, length, option_map}
use Rattle.std.specs.Prelude.{nat_lt, slice_get, option_and_then, if◌then◌else◌}
use Rattle.serde_json.specs.Data.{Data}
use Rattle.ccan_script.specs.declared.list_name.ListName.{ListName}
use Rattle.ccan_script.specs.declared.line_fault.LineFault.{LineFault}
use Rattle.ccan_script.specs.declared.script_error.ScriptError.{ScriptError}
use Rattle.ccan_script.specs.declared.script_error.ScriptError.TheVariants.{Shape, TooMany}
use Rattle.ccan_script.specs.Json.{can_be_list, lines_in}
use Rattle.ccan_script.specs.LineFault.{refusal_at}

-- that it is a list, how many lines it has, and each line
pub data ListPlace : Type 0 where
  list : ListPlace
  count : ListPlace
  line : ℕ → ListPlace

abbrev pub number_in_list : ListPlace → List ℕ
number_in_list list = 0 ∷ []
number_in_list count = 1 ∷ []
number_in_list (line index) = 2 ∷ index ∷ []

-- the faults of a list of at most this many lines, from those of its lines
unfoldable pub list_fault : ListName → ℕ → (Data → Option LineFault) → Option Data → ListPlace → Option ScriptError
list_fault name most fault o list = if can_be_list o then None else Some (Shape name 0)
list_fault name most fault o count = if nat_lt most (length (lines_in o)) then Some (TooMany name) else None
list_fault name most fault o (line index) =
    option_map (refusal_at name index) (option_and_then fault (slice_get (lines_in o) index))
