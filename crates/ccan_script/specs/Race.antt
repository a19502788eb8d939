-- Which faults a JSON value has as a script for a race, and what it means: the script, and the ports of which lines run alone
-- before the race. Source: this project's own.
use Rattle.std.specs.Prelude.{◌≡◌, ℕ, ◌≤◌, ◌++◌, List, [], ◌∷◌, Option, Some, None, Result, Ok, Err, Vec, IsUtf8, codes, length}
use Rattle.std.specs.declared.alloc.Global.{Global}
use Rattle.serde_json.specs.Data.{Data}
use Rattle.serde_json.specs.Find.{get}
use Rattle.serde_json.specs.Read.{read}
use Rattle.ccan_ram.specs.declared.port.PortName.{PortName}
use Rattle.ccan_ram.specs.declared.port.PortName.TheVariants.{If1, If2, Bus}
use Rattle.ccan_line.specs.Order.{times}
use Rattle.ccan_line.specs.Script.{ScriptFields, fields_of}
use Rattle.ccan_script.specs.declared.race_script.RaceScript.{RaceScript}
use Rattle.ccan_script.specs.declared.script_error.ScriptError.{ScriptError}
use Rattle.ccan_script.specs.declared.script_error.ScriptError.TheVariants.{NotJson}
use Rattle.ccan_script.specs.Before.{before_fault}
use Rattle.ccan_script.specs.Order.{OrderPlace, named_ports, number_in_order}
use Rattle.ccan_script.specs.Places.{IsFaultless, IsFirst}
use Rattle.ccan_script.specs.Reader.{UnlessMemory}
use Rattle.ccan_script.specs.Script.{Place, Says, fault_among, known_members, lines_of_port, number_of}

-- ---- the checks

-- those of the script, and then those of its member `before`
pub data RacePlace : Type 0 where
  script : Place → RacePlace
  before : OrderPlace → RacePlace

abbrev pub number_in_race : RacePlace → List ℕ
number_in_race (script place) = 0 ∷ number_of place
number_in_race (before place) = 1 ∷ number_in_order place

abbrev pub race_members : List (List ℕ)
race_members = known_members ++ codes "before" ∷ []

abbrev pub race_fault : Data → RacePlace → Option ScriptError
race_fault d (script place) = fault_among race_members d place
race_fault d (before place) = before_fault (lines_of_port d) (get (codes "before") d) place

-- ---- the meaning

-- what a script for a race says, wherever it lies in memory
pub record RaceFields : Type 0 where
  pub script : ScriptFields
  pub before : List PortName

abbrev pub fields_of_race : RaceScript → RaceFields
fields_of_race race = record { script = fields_of race.script; before = race.before.items }

-- it says what the value says; a value without the member names no port
pub record RaceSays (d : Data) (race : RaceFields) : Type 0 where
  pub script_says : Says d race.script
  pub before_is : race.before ≡ named_ports (get (codes "before") d)

-- what a value means: its script and its ports if it has no fault, else its fault of the least place
abbrev pub MeansRace : Data → Result RaceFields ScriptError → Type 0
MeansRace d (Ok race) = IsFaultless number_in_race (race_fault d) × RaceSays d race
MeansRace d (Err e) = IsFirst number_in_race (race_fault d) e

-- ---- what reading answers

-- the ports that a member names, in a script of which the ports have this many lines
abbrev pub ReadsBefore : (PortName → ℕ) → Option Data → Result (Vec PortName Global) ScriptError → Type 0
ReadsBefore lines o (Ok ports) = IsFaultless number_in_order (before_fault lines o) × (ports.items ≡ named_ports o)
ReadsBefore lines o (Err e) = UnlessMemory e (IsFirst number_in_order (before_fault lines o) e)

abbrev pub ReadsRaceValue : Data → Result RaceScript ScriptError → Type 0
ReadsRaceValue d (Ok race) = MeansRace d (Ok (fields_of_race race))
ReadsRaceValue d (Err e) = UnlessMemory e (MeansRace d (Err e))

-- the bytes are UTF-8 and a JSON value, which means this
pub record ShowsRace (bytes : List ℕ) (r : Result RaceFields ScriptError) : Type 0 where
  pub utf8 : IsUtf8 bytes
  pub value : Data
  pub read : read bytes ≡ Some value
  pub means : MeansRace value r

-- a refusal is for the value's fault, or for bytes that are not UTF-8 or not JSON
abbrev pub RefusesRace : List ℕ → ScriptError → Type 0
RefusesRace bytes NotJson = IsUtf8 bytes → read bytes ≡ None
RefusesRace bytes e = UnlessMemory e (ShowsRace bytes (Err e))

abbrev pub ReadsRace : List ℕ → Result RaceScript ScriptError → Type 0
ReadsRace bytes (Ok race) = ShowsRace bytes (Ok (fields_of_race race))
ReadsRace bytes (Err e) = RefusesRace bytes e

-- ---- what callers rely on

-- each port is named at most as often as it has lines
pub record NamesFew (script : ScriptFields) (before : List PortName) : Type 0 where
  pub if1 : times If1 before ≤ length script.if1
  pub if2 : times If2 before ≤ length script.if2
  pub bus : times Bus before ≤ length script.bus
