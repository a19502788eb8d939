-- From what a value means to what the bytes mean.
use Rattle.std.proofs.Common.{◌≡◌, ℕ, List, Bool, true, false, Option, Some, None, Result, Ok, Err, cond, nat_le}
use Rattle.std.proofs.Common.{nat_lt, ◌&&◌, ◌==◌, length, inl, inr, option_and_then, option_map}
use Rattle.std.specs.Prelude.{IsUtf8}
use Rattle.std.specs.List.{slice_get}
use Rattle.std.specs.Option.{option_map_or}
use Rattle.serde_json.specs.Data.{Data}
use Rattle.serde_json.specs.Errors.{IsMemory}
use Rattle.serde_json.specs.Read.{read}
use Rattle.serde_json.specs.declared.error.Error.{Error}
use Rattle.ccan_script.specs.declared.list_name.ListName.{ListName}
use Rattle.ccan_script.specs.declared.list_name.ListName.TheVariants.{Top}
use Rattle.ccan_script.specs.declared.line_fault.LineFault.{LineFault}
use Rattle.ccan_script.specs.declared.line_fault.LineFault.TheVariants as fault
use Rattle.ccan_script.specs.declared.script_error.ScriptError.{ScriptError}
use Rattle.ccan_script.specs.declared.script_error.ScriptError.TheVariants.{NotJson, Shape, Range, TooMany, Order, Before, Memory}
use Rattle.ccan_line.specs.declared.script.Script.{Script}
use Rattle.ccan_ram.specs.declared.port.PortName.{PortName}
use Rattle.ccan_script.specs.Json.{can_be_list, has_only, lines_in, whole}
use Rattle.ccan_script.specs.LineFault.{refusal_at}
use Rattle.ccan_script.specs.ListPlace.{ListPlace, count, line, list, list_fault}
use Rattle.ccan_line.specs.Order.{times}
use Rattle.ccan_script.specs.Order.{OrderPlace, names, named_ports, order_fault, share, times_fault}
use Rattle.ccan_script.specs.Reader.{ReadsScript, ReadsValue, RefusesText}
use Rattle.ccan_script.specs.Script.{Place, bus, fault_among, if1, if2, members, nodes, number_fault, order, profile, quota, tries}
use Rattle.ccan_script.specs.ScriptError.{IsRefusalOf}

-- ---- no fault of a value is that the bytes are no JSON

shape_or : (b : Bool) (l : ListName) (i : ℕ) → cond b None (Some (Shape l i)) ≡ Some NotJson → ⊥
shape_or true l i h = cc
shape_or false l i h = cc

range_or : (b : Bool) (l : ListName) (i : ℕ) → cond b None (Some (Range l i)) ≡ Some NotJson → ⊥
range_or true l i h = cc
range_or false l i h = cc

many_or : (b : Bool) (l : ListName) → cond b (Some (TooMany l)) None ≡ Some NotJson → ⊥
many_or true l h = cc
many_or false l h = cc

at_line : (name : ListName) (i : ℕ) (o : Option LineFault) → option_map (refusal_at name i) o ≡ Some NotJson → ⊥
at_line name i None h = cc
at_line name i (Some fault.Shape) h = cc
at_line name i (Some fault.Range) h = cc

number_is_json : (least greatest : ℕ) (o : Option Data) → number_fault least greatest o ≡ Some NotJson → ⊥
unfolding number_fault
number_is_json least greatest None h = cc
number_is_json least greatest (Some d) h = go (whole d) h
  where
    go : (n : Option ℕ) → option_map_or (λ n. cond (nat_le least n && nat_le n greatest) None (Some (Range Top 0))) n
        (Some (Shape Top 0)) ≡ Some NotJson → ⊥
    go None h = cc
    go (Some n) h = range_or (nat_le least n && nat_le n greatest) Top 0 h

pub list_is_json : (name : ListName) (most : ℕ) (fault : Data → Option LineFault) (o : Option Data) (p : ListPlace)
    → list_fault name most fault o p ≡ Some NotJson → ⊥
unfolding list_fault
list_is_json name most fault o list h = shape_or (can_be_list o) name 0 h
list_is_json name most fault o count h = many_or (nat_lt most (length (lines_in o))) name h
list_is_json name most fault o (line i) h = at_line name i (option_and_then fault (slice_get (lines_in o) i)) h

order_or : (b : Bool) (n : PortName) → cond b None (Some (Order n)) ≡ Some NotJson → ⊥
order_or true n h = cc
order_or false n h = cc

times_is_json : (lines : PortName → ℕ) (o : Option Data) (n : PortName) → times_fault lines o n ≡ Some NotJson → ⊥
unfolding times_fault
times_is_json lines None n h = cc
times_is_json lines (Some d) n h = order_or (times n (named_ports (Some d)) == lines n) n h

order_is_json : (lines : PortName → ℕ) (o : Option Data) (p : OrderPlace) → order_fault lines o p ≡ Some NotJson → ⊥
order_is_json lines o (names p) h = list_is_json _ _ _ o p h
order_is_json lines o (share n) h = times_is_json lines o n h

pub is_json : (known : List (List ℕ)) (d : Data) (p : Place) → fault_among known d p ≡ Some NotJson → ⊥
unfolding fault_among
is_json known d members h = shape_or (has_only _ d) _ 0 h
is_json known d profile h = number_is_json _ _ _ h
is_json known d quota h = number_is_json _ _ _ h
is_json known d tries h = number_is_json _ _ _ h
is_json known d nodes h = number_is_json _ _ _ h
is_json known d (if1 p) h = list_is_json _ _ _ _ p h
is_json known d (if2 p) h = list_is_json _ _ _ _ p h
is_json known d (bus p) h = list_is_json _ _ _ _ p h
is_json known d (order p) h = order_is_json _ _ p h

-- ---- texts

pub reads_value : (bytes : List ℕ) (d : Data) (r : Result Script ScriptError) → IsUtf8 bytes → read bytes ≡ Some d
    → ReadsValue d r → ReadsScript bytes r
reads_value bytes d (Ok s) utf8 is h = record { utf8 = utf8; value = d; read = is; means = h }
reads_value bytes d (Err NotJson) utf8 is h = absurd (is_json _ d h.place h.is)
reads_value bytes d (Err (Shape l i)) utf8 is h = record { utf8 = utf8; value = d; read = is; means = h }
reads_value bytes d (Err (Range l i)) utf8 is h = record { utf8 = utf8; value = d; read = is; means = h }
reads_value bytes d (Err (TooMany l)) utf8 is h = record { utf8 = utf8; value = d; read = is; means = h }
reads_value bytes d (Err (Order n)) utf8 is h = record { utf8 = utf8; value = d; read = is; means = h }
reads_value bytes d (Err (Before n)) utf8 is h = record { utf8 = utf8; value = d; read = is; means = h }
reads_value bytes d (Err Memory) utf8 is h = tt

pub refuses_text : (bytes : List ℕ) (from : Error) (e : ScriptError) → ((IsMemory from → ⊥) → IsUtf8 bytes → read bytes ≡ None)
    → IsRefusalOf from e → RefusesText bytes e
refuses_text bytes from e none is = elim is [
  | inl memory ↦ rw memory.1 tt
  | inr text ↦ rw text.1 (none text.0)
]
