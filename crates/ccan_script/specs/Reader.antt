-- What reading a script answers: what its JSON value means, unless memory ran out. Source: this project's own.
use Rattle.std.specs.Prelude.{◌≡◌, ℕ, List, Option, Some, None, Result, Ok, Err, Vec, IsUtf8}
use Rattle.std.specs.declared.alloc.Global.{Global}
use Rattle.serde_json.specs.Data.{Data}
use Rattle.serde_json.specs.Read.{read}
use Rattle.ccan_ram.specs.declared.port.PortName.{PortName}
use Rattle.ccan_script.specs.declared.list_name.ListName.{ListName}
use Rattle.ccan_script.specs.declared.line_fault.LineFault.{LineFault}
use Rattle.ccan_script.specs.declared.script_error.ScriptError.{ScriptError}
use Rattle.ccan_script.specs.declared.script_error.ScriptError.TheVariants.{NotJson, Memory}
use Rattle.ccan_line.specs.declared.script.Script.{Script}
use Rattle.ccan_script.specs.Json.{lines_in}
use Rattle.ccan_script.specs.Lines.{AreLines}
use Rattle.ccan_script.specs.Order.{number_in_order, order_by, order_fault}
use Rattle.ccan_script.specs.Places.{IsFaultless, IsFirst}
use Rattle.ccan_script.specs.ListPlace.{list_fault, number_in_list}
use Rattle.ccan_line.specs.Script.{ScriptFields, fields_of}
use Rattle.ccan_script.specs.Script.{Means, MeansAmong, known_members, number_fault, number_or}

-- it holds for each refusal except lack of memory
abbrev pub UnlessMemory : ScriptError → Type 0 → Type 0
UnlessMemory Memory P = Unit {0}
UnlessMemory _ P = P

-- ---- the parts of a value

abbrev pub ReadsNumber : ℕ → ℕ → ℕ → Option Data → Result ℕ ScriptError → Type 0
ReadsNumber least greatest default o (Ok n) = (number_fault least greatest o ≡ None) × (n ≡ number_or default o)
ReadsNumber least greatest default o (Err e) = number_fault least greatest o ≡ Some e

module _ {L : Type 0} (name : ListName) (most : ℕ) (fault : Data → Option LineFault) (LineSays : Data → L → Type 0)
    (o : Option Data) where
  abbrev pub ReadsList : Result (Vec L Global) ScriptError → Type 0
  ReadsList (Ok lines) =
      IsFaultless number_in_list (list_fault name most fault o) × AreLines LineSays (lines_in o) lines.items
  ReadsList (Err e) = UnlessMemory e (IsFirst number_in_list (list_fault name most fault o) e)

-- the order of ports that have this many lines
abbrev pub ReadsOrder : (PortName → ℕ) → Option Data → Result (Vec PortName Global) ScriptError → Type 0
ReadsOrder lines o (Ok order) = IsFaultless number_in_order (order_fault lines o) × (order.items ≡ order_by lines o)
ReadsOrder lines o (Err e) = UnlessMemory e (IsFirst number_in_order (order_fault lines o) e)

-- ---- a value

-- that may have the members of these names
abbrev pub ReadsAmong : List (List ℕ) → Data → Result Script ScriptError → Type 0
ReadsAmong known d (Ok script) = MeansAmong known d (Ok (fields_of script))
ReadsAmong known d (Err e) = UnlessMemory e (MeansAmong known d (Err e))

abbrev pub ReadsValue : Data → Result Script ScriptError → Type 0
ReadsValue = ReadsAmong known_members

-- ---- bytes

-- the bytes are UTF-8 and a JSON value, which means this
pub record Shows (bytes : List ℕ) (r : Result ScriptFields ScriptError) : Type 0 where
  pub utf8 : IsUtf8 bytes
  pub value : Data
  pub read : read bytes ≡ Some value
  pub means : Means value r

-- a refusal is for the value's fault, or for bytes that are not UTF-8 or not JSON
abbrev pub RefusesText : List ℕ → ScriptError → Type 0
RefusesText bytes NotJson = IsUtf8 bytes → read bytes ≡ None
RefusesText bytes e = UnlessMemory e (Shows bytes (Err e))

-- what the bytes of a script answer
abbrev pub ReadsScript : List ℕ → Result Script ScriptError → Type 0
ReadsScript bytes (Ok script) = Shows bytes (Ok (fields_of script))
ReadsScript bytes (Err e) = RefusesText bytes e
