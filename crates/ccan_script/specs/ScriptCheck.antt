-- What a report of a script has first: the fault that reading the script answers, reported at its place. Source: this project's
-- own.
use Rattle.std.specs.Prelude.{ℕ, ◌≡◌, ◌≢◌, ◌++◌, List, [], ◌∷◌, Option, Some, None, Ok, IsTrue, IsUtf8, codes}
use Rattle.std.specs.Prelude.{decimal}
use Rattle.std.specs.Prelude.{nat_eq, slice_get, string_bytes}
use Rattle.std.specs.List.{starts_with}
use Rattle.std.specs.Option.{option_map_or}
use Rattle.serde_json.specs.Data.{Data}
use Rattle.serde_json.specs.Find.{get}
use Rattle.serde_json.specs.Read.{read}
use Rattle.ccan_line.specs.Limits.{default_nodes, default_profile, most_nodes, most_profile}
use Rattle.ccan_line.specs.Script.{ScriptFields}
use Rattle.ccan_script.specs.declared.line_context.LineContext.{LineContext}
use Rattle.ccan_script.specs.declared.list_name.ListName.{ListName}
use Rattle.ccan_script.specs.declared.list_name.ListName.TheVariants as list
use Rattle.ccan_script.specs.declared.script_error.ScriptError.{ScriptError}
use Rattle.ccan_script.specs.declared.script_error.ScriptError.TheVariants.{NotJson, Shape, Range, TooMany, Order, Before}
use Rattle.ccan_script.specs.declared.script_error.ScriptError.TheVariants.{Memory}
use Rattle.ccan_script.specs.Json.{lines_in}
use Rattle.ccan_script.specs.ListName.{list_text}
use Rattle.ccan_script.specs.Race.{RaceFields, RefusesRace, ShowsRace}
use Rattle.ccan_script.specs.Reader.{RefusesText, Shows}
use Rattle.ccan_script.specs.Script.{number_fault, number_or, profile_numbered}
use Rattle.ccan_script.specs.declared.check.line_path.LinePath.{LinePath}
use Rattle.ccan_script.specs.declared.check.report.Fault.{Fault}
use Rattle.ccan_script.specs.declared.check.line_path.Part.TheVariants.{Whole}
use Rattle.ccan_script.specs.FirstFault.{bus_place, host_place, in_line}
use Rattle.ccan_script.specs.LinePath.{path_text}

-- ---- what the ranges of lines follow from

-- the number of a member, or the greatest if that is at fault
abbrev pub number_or_greatest : ℕ → ℕ → ℕ → Option Data → ℕ
number_or_greatest least greatest default o =
    option_map_or (λ fault. greatest) (number_fault least greatest o) (number_or default o)

abbrev pub context_of : Data → LineContext
context_of d =
    record {
      profile = profile_numbered (number_or_greatest 1 most_profile default_profile (get (codes "profile") d));
      nodes = number_or_greatest 0 most_nodes default_nodes (get (codes "nodes") d);
    }

-- ---- the path of a fault

-- the place of the first fault in a line of a list
abbrev pub place_in : ListName → LineContext → Data → LinePath
place_in list.Top context line = in_line Whole
place_in list.If1 context line = host_place context line
place_in list.If2 context line = host_place context line
place_in list.Bus context line = bus_place context line
place_in list.Order context line = in_line Whole
place_in list.Before context line = in_line Whole

-- a list and the index of a line in it, and the place in the line; only the list if it has no such line
abbrev pub line_path : Data → ListName → ℕ → List ℕ
line_path d name index =
    option_map_or
    (λ line. path_text (list_text name ++ (codes "[" ++ (decimal index ++ codes "]"))) (place_in name (context_of d) line))
    (slice_get (lines_in (get (list_text name) d)) index)
    (list_text name)

-- the path of the fault of a script in its value; a fault of the script itself has none that is said here
abbrev pub fault_path : Data → ScriptError → List ℕ
fault_path d NotJson = codes "not JSON"
fault_path d (Shape list.Top index) = []
fault_path d (Shape name index) = line_path d name index
fault_path d (Range list.Top index) = []
fault_path d (Range name index) = line_path d name index
fault_path d (TooMany name) = list_text name
fault_path d (Order port) = codes "order"
fault_path d (Before port) = codes "before"
fault_path d Memory = []

-- ---- the first fault

abbrev pub first_fault : List Fault → Option Fault
first_fault [] = None
first_fault (fault ∷ later) = Some fault

-- it is this fault, and what is said of it begins with this path
abbrev pub IsToldAs : ScriptError → List ℕ → Option Fault → Type 0
IsToldAs error path None = ⊥
IsToldAs error path (Some fault) = (fault.error ≡ error) × IsTrue (starts_with nat_eq (string_bytes fault.remark.text) path)

-- what is said of a fault begins with its path
abbrev pub BeginsWithPath : List ℕ → Fault → Type 0
BeginsWithPath bytes fault =
    (d : Data) → IsUtf8 bytes → read bytes ≡ Some d
    → IsTrue (starts_with nat_eq (string_bytes fault.remark.text) (fault_path d fault.error))

-- it is this fault of the bytes, reported with its path
abbrev pub IsFirstTold : List ℕ → ScriptError → Option Fault → Type 0
IsFirstTold bytes error None = ⊥
IsFirstTold bytes error (Some fault) = (fault.error ≡ error) × BeginsWithPath bytes fault

-- if the bytes are a script, there is no first fault; otherwise it is the refusal of the bytes, reported with its path
abbrev pub IsFirstOf : List ℕ → Option Fault → Type 0
IsFirstOf bytes None = (script : ScriptFields) × Shows bytes (Ok script)
IsFirstOf bytes (Some fault) = (fault.error ≢ Memory) × RefusesText bytes fault.error × BeginsWithPath bytes fault

-- the same of a script for a race
abbrev pub IsFirstOfRace : List ℕ → Option Fault → Type 0
IsFirstOfRace bytes None = (race : RaceFields) × ShowsRace bytes (Ok race)
IsFirstOfRace bytes (Some fault) = (fault.error ≢ Memory) × RefusesRace bytes fault.error × BeginsWithPath bytes fault
