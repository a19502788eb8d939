-- Which faults a JSON value has as a script, each at its place in the order of the checks, and what the value means: its
-- script if it has no fault, and otherwise the fault of the least place. Source: this project's own.
use Rattle.std.specs.Prelude.{◌≡◌, ℕ, ◌==◌, ◌&&◌, List, [], ◌∷◌, Option, Some, None, Result, Ok, Err}
use Rattle.std.specs.Prelude.{codes, length, nat_le, option_and_then, unwrap_or, if◌then◌else◌}
use Rattle.std.specs.Option.{option_map_or}
use Rattle.serde_json.specs.Data.{Data}
use Rattle.serde_json.specs.Find.{get}
use Rattle.ccan_object.specs.declared.profile.Profile.{Profile}
use Rattle.ccan_object.specs.declared.profile.Profile.TheVariants.{One, Two}
use Rattle.ccan_ram.specs.declared.port.PortName.{PortName}
use Rattle.ccan_ram.specs.Port.{port_text}
use Rattle.ccan_ram.specs.Port.{most_quota}
use Rattle.ccan_ram.specs.Tries.{most_tries}
use Rattle.ccan_script.specs.declared.list_name.ListName.TheVariants.{Top, If1, If2, Bus}
use Rattle.ccan_script.specs.declared.script_error.ScriptError.{ScriptError}
use Rattle.ccan_script.specs.declared.script_error.ScriptError.TheVariants.{Shape, Range}
use Rattle.ccan_line.specs.Script.{ScriptFields}
use Rattle.ccan_line.specs.Port.{count_of}
use Rattle.ccan_line.specs.Limits.{most_lines, most_profile, default_profile, default_quota}
use Rattle.ccan_line.specs.Limits.{default_tries, most_nodes, default_nodes}
use Rattle.ccan_script.specs.Json.{has_only, lines_in, whole}
use Rattle.ccan_script.specs.Lines.{AreLines}
use Rattle.ccan_script.specs.HostLine.{host_fault, HostSays}
use Rattle.ccan_script.specs.BusLine.{bus_fault, BusSays}
use Rattle.ccan_script.specs.Order.{OrderPlace, number_in_order, order_by, order_fault}
use Rattle.ccan_script.specs.Places.{IsFaultless, IsFirst}
use Rattle.ccan_script.specs.ListPlace.{ListPlace, list_fault, number_in_list}

-- ---- numbers

-- a whole number in a range: first its shape, then its range; if there is no such member, no fault
unfoldable pub number_fault : ℕ → ℕ → Option Data → Option ScriptError
number_fault least greatest None = None
number_fault least greatest (Some d) =
    option_map_or (λ n. if nat_le least n && nat_le n greatest then None else Some (Range Top 0)) (whole d)
    (Some (Shape Top 0))

unfoldable pub number_or : ℕ → Option Data → ℕ
number_or default o = unwrap_or (option_and_then whole o) default

-- the profile of this number, which is 1 or 2
abbrev pub profile_numbered : ℕ → Profile
profile_numbered number = if number == 2 then Two else One

-- ---- the checks

pub data Place : Type 0 where
  members : Place
  profile : Place
  quota : Place
  tries : Place
  nodes : Place
  if1 : ListPlace → Place
  if2 : ListPlace → Place
  bus : ListPlace → Place
  order : OrderPlace → Place

abbrev pub number_of : Place → List ℕ
number_of members = 0 ∷ []
number_of profile = 1 ∷ []
number_of quota = 2 ∷ []
number_of tries = 3 ∷ []
number_of nodes = 4 ∷ []
number_of (if1 place) = 5 ∷ number_in_list place
number_of (if2 place) = 6 ∷ number_in_list place
number_of (bus place) = 7 ∷ number_in_list place
number_of (order place) = 8 ∷ number_in_order place

abbrev pub known_members : List (List ℕ)
known_members =
    codes "profile" ∷ codes "quota" ∷ codes "tries" ∷ codes "nodes" ∷ codes "if1" ∷ codes "if2" ∷ codes "bus"
    ∷ codes "order" ∷ []

abbrev pub profile_of : Data → Profile
profile_of d = profile_numbered (number_or default_profile (get (codes "profile") d))

abbrev pub nodes_of : Data → ℕ
nodes_of d = number_or default_nodes (get (codes "nodes") d)

-- how many lines a port has in the value
abbrev pub lines_of_port : Data → PortName → ℕ
lines_of_port d name = length (lines_in (get (port_text name) d))

-- the faults of a value that may have the members of these names
unfoldable pub fault_among : List (List ℕ) → Data → Place → Option ScriptError
fault_among known d members = if has_only known d then None else Some (Shape Top 0)
fault_among known d profile = number_fault 1 most_profile (get (codes "profile") d)
fault_among known d quota = number_fault 1 most_quota (get (codes "quota") d)
fault_among known d tries = number_fault 1 most_tries (get (codes "tries") d)
fault_among known d nodes = number_fault 0 most_nodes (get (codes "nodes") d)
fault_among known d (if1 place) = list_fault If1 most_lines (host_fault (profile_of d)) (get (codes "if1") d) place
fault_among known d (if2 place) = list_fault If2 most_lines (host_fault (profile_of d)) (get (codes "if2") d) place
fault_among known d (bus place) = list_fault Bus most_lines (bus_fault (nodes_of d)) (get (codes "bus") d) place
fault_among known d (order place) = order_fault (lines_of_port d) (get (codes "order") d) place

abbrev pub fault_at : Data → Place → Option ScriptError
fault_at = fault_among known_members

-- ---- the meaning

-- the script says what the value says
pub record Says (d : Data) (script : ScriptFields) : Type 0 where
  pub profile_is : script.profile ≡ profile_of d
  pub quota_is : script.quota ≡ number_or default_quota (get (codes "quota") d)
  pub tries_is : script.tries ≡ number_or default_tries (get (codes "tries") d)
  pub nodes_are : script.nodes ≡ nodes_of d
  pub if1_lines : AreLines HostSays (lines_in (get (codes "if1") d)) script.if1
  pub if2_lines : AreLines HostSays (lines_in (get (codes "if2") d)) script.if2
  pub bus_lines : AreLines BusSays (lines_in (get (codes "bus") d)) script.bus
  pub order_is : script.order ≡ order_by (count_of script) (get (codes "order") d)

-- what a value that may have the members of these names means: its script if it has no fault, else its fault of the least place
abbrev pub MeansAmong : List (List ℕ) → Data → Result ScriptFields ScriptError → Type 0
MeansAmong known d (Ok script) = IsFaultless number_of (fault_among known d) × Says d script
MeansAmong known d (Err e) = IsFirst number_of (fault_among known d) e

-- what a value means
abbrev pub Means : Data → Result ScriptFields ScriptError → Type 0
Means = MeansAmong known_members
