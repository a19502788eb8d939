-- A script for a race from its script and the lines that run before it.
use Rattle.std.proofs.Common.{◌≡◌, ℕ, List, Option, Some, None, Result, Ok, Err, Bool, true, false, cond, codes, nat_le}
use Rattle.std.proofs.Common.{subst, inl, inr}
use Rattle.std.specs.Prelude.{IsUtf8}
use Rattle.std.specs.Result.{IsErrAnd}
use Rattle.serde_json.specs.Data.{Data}
use Rattle.serde_json.specs.Errors.{IsMemory}
use Rattle.serde_json.specs.Find.{get}
use Rattle.serde_json.specs.Read.{read}
use Rattle.serde_json.specs.declared.error.Error.{Error}
use Rattle.ccan_ram.specs.declared.port.PortName.{PortName}
use Rattle.ccan_ram.specs.declared.port.PortName.TheVariants as port
use Rattle.ccan_line.specs.Order.{times}
use Rattle.ccan_line.specs.Port.{count_of}
use Rattle.ccan_line.specs.Script.{ScriptFields}
use Rattle.ccan_script.specs.declared.race_script.RaceScript.{RaceScript}
use Rattle.ccan_script.specs.declared.script_error.ScriptError.{ScriptError}
use Rattle.ccan_script.specs.declared.script_error.ScriptError.TheVariants.{NotJson, Shape, Range, TooMany, Order, Before, Memory}
use Rattle.ccan_script.specs.Before.{before_fault, share_fault}
use Rattle.ccan_script.specs.BusLine.{BusSays}
use Rattle.ccan_script.specs.HostLine.{HostSays}
use Rattle.ccan_script.specs.Order.{named_ports, names, number_in_order, share}
use Rattle.ccan_script.specs.Places.{IsFaultless, IsFirst, Precedes}
use Rattle.ccan_script.specs.Race.{MeansRace, RacePlace, ReadsRace, ReadsRaceValue, RefusesRace, before}
use Rattle.ccan_script.specs.Race.{number_in_race, race_fault, race_members, script}
use Rattle.ccan_script.specs.Reader.{UnlessMemory}
use Rattle.ccan_script.specs.Script.{Says, fault_among, lines_of_port, number_of}
use Rattle.ccan_script.specs.ScriptError.{IsRefusalOf}
use Rattle.ccan_script.proofs.Lines.{lines_length}
use Rattle.ccan_script.proofs.Texts.{is_json, list_is_json}

-- ---- a value

-- a refusal of a part is that of the whole, where it is passed on
pub race_told : (d : Data) (r : Result RaceScript ScriptError) (e : ScriptError) → IsErrAnd r (λ y. y ≡ e)
    → UnlessMemory e (MeansRace d (Err e)) → ReadsRaceValue d r
race_told d (Ok race) e passed_on h = absurd passed_on
race_told d (Err y) e passed_on h = rw passed_on h

module _ (d : Data) where
  -- a fault of the script
  pub bad_script : (e : ScriptError) → IsFirst number_of (fault_among race_members d) e → MeansRace d (Err e)
  bad_script e h = record { place = script h.place; is = h.is; first = go }
    where
      go : (q : RacePlace) → Precedes (number_in_race q) (number_in_race (script h.place)) → race_fault d q ≡ None
      go (script q) earlier = h.first q earlier
      go (before q) earlier = cc

  module _ (s : ScriptFields) (says : Says d s) where
    same : (name : PortName) → count_of s name ≡ lines_of_port d name
    same port.If1 = lines_length HostSays _ s.if1 says.if1_lines
    same port.If2 = lines_length HostSays _ s.if2 says.if2_lines
    same port.Bus = lines_length BusSays _ s.bus says.bus_lines

    same_counts : count_of s ≡ lines_of_port d
    same_counts = λ i name. same name i

    module _ (script_ok : IsFaultless number_of (fault_among race_members d)) where
      -- a fault of its member
      pub bad_before : (e : ScriptError) → IsFirst number_in_order (before_fault (count_of s) (get (codes "before") d)) e
          → MeansRace d (Err e)
      bad_before e at = record { place = before h.place; is = h.is; first = go }
        where
          h : IsFirst number_in_order (before_fault (lines_of_port d) (get (codes "before") d)) e
          h = subst (λ (lines : PortName → ℕ). IsFirst number_in_order (before_fault lines (get (codes "before") d)) e)
              same_counts at

          go : (q : RacePlace) → Precedes (number_in_race q) (number_in_race (before h.place)) → race_fault d q ≡ None
          go (script q) earlier = script_ok q
          go (before q) earlier = h.first q earlier

      pub no_race_fault : IsFaultless number_in_order (before_fault (count_of s) (get (codes "before") d))
          → IsFaultless number_in_race (race_fault d)
      no_race_fault h (script q) = script_ok q
      no_race_fault h (before q) =
          subst (λ (lines : PortName → ℕ). before_fault lines (get (codes "before") d) q ≡ None) same_counts (h q)

-- ---- no fault of a value is that the bytes are no JSON

before_or : (b : Bool) (n : PortName) → cond b None (Some (Before n)) ≡ Some NotJson → ⊥
before_or true n h = cc
before_or false n h = cc

share_is_json : (lines : PortName → ℕ) (o : Option Data) (n : PortName) → share_fault lines o n ≡ Some NotJson → ⊥
unfolding share_fault
share_is_json lines o n h = before_or (nat_le (times n (named_ports o)) (lines n)) n h

race_is_json : (d : Data) (p : RacePlace) → race_fault d p ≡ Some NotJson → ⊥
race_is_json d (script p) h = is_json race_members d p h
race_is_json d (before (names p)) h = list_is_json _ _ _ _ p h
race_is_json d (before (share n)) h = share_is_json _ _ n h

-- ---- texts

pub reads_race : (bytes : List ℕ) (d : Data) (r : Result RaceScript ScriptError) → IsUtf8 bytes → read bytes ≡ Some d
    → ReadsRaceValue d r → ReadsRace bytes r
reads_race bytes d (Ok s) utf8 is h = record { utf8 = utf8; value = d; read = is; means = h }
reads_race bytes d (Err NotJson) utf8 is h = absurd (race_is_json d h.place h.is)
reads_race bytes d (Err (Shape l i)) utf8 is h = record { utf8 = utf8; value = d; read = is; means = h }
reads_race bytes d (Err (Range l i)) utf8 is h = record { utf8 = utf8; value = d; read = is; means = h }
reads_race bytes d (Err (TooMany l)) utf8 is h = record { utf8 = utf8; value = d; read = is; means = h }
reads_race bytes d (Err (Order n)) utf8 is h = record { utf8 = utf8; value = d; read = is; means = h }
reads_race bytes d (Err (Before n)) utf8 is h = record { utf8 = utf8; value = d; read = is; means = h }
reads_race bytes d (Err Memory) utf8 is h = tt

pub refuses_race : (bytes : List ℕ) (from : Error) (e : ScriptError) → ((IsMemory from → ⊥) → IsUtf8 bytes → read bytes ≡ None)
    → IsRefusalOf from e → RefusesRace bytes e
refuses_race bytes from e none is = elim is [
  | inl memory ↦ rw memory.1 tt
  | inr text ↦ rw text.1 (none text.0)
]
