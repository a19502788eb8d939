-- A value means one thing as a script for a race, and the same as a script if it has no member `before`.
use Rattle.std.proofs.Common.{◌≡◌, ◌∙◌, ◌&&◌, ◌||◌, ℕ, List, [], ◌∷◌, ◌++◌, Bool, true, false, Option, Some, None, Result, Ok, Err}
use Rattle.std.proofs.Common.{ap, ap₂, arith, codes, cond, nat_le, refl, subst, sym}
use Rattle.std.proofs.lemmas.Bool.Decides.{nat_tests}
use Rattle.std.proofs.lemmas.Map.Text.{is_eq-slice_cmp}
use Rattle.std.specs.Cmp.Lexicographic.{slice_cmp}
use Rattle.std.specs.List.{list_all}
use Rattle.std.specs.Ordering.{is_eq, match_ordering, nat_cmp}
use Rattle.std.specs.Str.{bytes_eq}
use Rattle.std.specs.declared.cmp.Ordering.{Ordering}
use Rattle.std.specs.declared.cmp.Ordering.TheVariants.{Less, Equal, Greater}
use Rattle.serde_json.specs.Data.{Data, Members, array, boolean, member, no_members, null, number, object, string}
use Rattle.serde_json.specs.Find.{get, get_member}
use Rattle.ccan_ram.specs.declared.port.PortName.{PortName}
use Rattle.ccan_line.specs.Script.{ScriptFields}
use Rattle.ccan_script.specs.declared.list_name.ListName.TheVariants as list_name
use Rattle.ccan_script.specs.declared.script_error.ScriptError.{ScriptError}
use Rattle.ccan_script.specs.declared.script_error.ScriptError.TheVariants as error
use Rattle.ccan_script.specs.Before.{before_fault, share_fault}
use Rattle.ccan_script.specs.Json.{has_only, is_among, lines_in, names_in}
use Rattle.ccan_script.specs.Laws.{HasOneRace, ScriptIsARace, none_before}
use Rattle.ccan_script.specs.Order.{OrderPlace, named_ports, names, share}
use Rattle.ccan_script.specs.Places.{IsFaultless, IsFirst, Precedes}
use Rattle.ccan_script.specs.Race.{MeansRace, RaceFields, RacePlace, before, number_in_race, race_fault, race_members, script}
use Rattle.ccan_script.specs.Script.{Means, Place, fault_among, fault_at, known_members, lines_of_port, number_of}
use Rattle.ccan_script.specs.Script.{members}
use Rattle.ccan_script.proofs.ListFaults.{no_list}
use Rattle.ccan_script.proofs.OneMeaning.{no_first, one_first, one_script, same_order_place, same_place}
use Rattle.ccan_script.proofs.Races.{bad_script}

-- ---- one meaning

same_race_place : (p q : RacePlace) → number_in_race p ≡ number_in_race q → p ≡ q
same_race_place (script p) (script q) h = ap script (same_place p q cc)
same_race_place (before p) (before q) h = ap before (same_order_place p q cc)
same_race_place p q h = cc

same_race : (a b : RaceFields) → a.script ≡ b.script → a.before ≡ b.before → a ≡ b
same_race a b script_is before_is = λ i. record { script = script_is i; before = before_is i }

pub one_race : HasOneRace
one_race d (Ok m) (Ok n) h k =
    ap Ok (same_race m n (one_script d m.script n.script h.1.script_says k.1.script_says) (h.1.before_is ∙ sym k.1.before_is))
one_race d (Ok m) (Err f) h k = absurd (no_first number_in_race (race_fault d) f h.0 k)
one_race d (Err e) (Ok n) h k = absurd (no_first number_in_race (race_fault d) e k.0 h)
one_race d (Err e) (Err f) h k = ap Err (one_first number_in_race (race_fault d) same_race_place e f h k)

-- ---- one name more

module _ (word : List ℕ) (known : List (List ℕ)) where
  name_among : (known : List (List ℕ)) (name : List ℕ) → bytes_eq word name ≡ false
      → is_among (known ++ word ∷ []) name ≡ is_among known name
  name_among [] name other = rw other refl
  name_among (k ∷ ks) name other = ap (λ (b : Bool). bytes_eq k name || b) (name_among ks name other)

  abbrev AreKnownAlike : Members → Type 0
  AreKnownAlike ms = list_all (is_among (known ++ word ∷ [])) (names_in ms) ≡ list_all (is_among known) (names_in ms)

  one_more : (name : List ℕ) (d : Data) (ms : Members) → (get_member word ms ≡ None → AreKnownAlike ms) → (o : Ordering)
      → slice_cmp nat_cmp word name ≡ o → match_ordering o (get_member word ms) (Some d) (get_member word ms) ≡ None
      → AreKnownAlike (member name d ms)
  one_more name d ms rest Less is none =
      ap₂ ◌&&◌ (name_among known name (sym (is_eq-slice_cmp word name) ∙ ap is_eq is)) (rest none)
  one_more name d ms rest Equal is none = cc
  one_more name d ms rest Greater is none =
      ap₂ ◌&&◌ (name_among known name (sym (is_eq-slice_cmp word name) ∙ ap is_eq is)) (rest none)

  members_alike : (ms : Members) → get_member word ms ≡ None → AreKnownAlike ms
  members_alike no_members none = refl
  members_alike (member name d ms) none = one_more name d ms (members_alike ms) (slice_cmp nat_cmp word name) refl none

  only_alike : (d : Data) → get word d ≡ None → has_only (known ++ word ∷ []) d ≡ has_only known d
  unfolding has_only
  only_alike null none = refl
  only_alike (boolean b) none = refl
  only_alike (number n) none = refl
  only_alike (string s) none = refl
  only_alike (array ds) none = refl
  only_alike (object ms) none = members_alike ms none

-- ---- without the member

no_names_fault : (lines : PortName → ℕ) (q : OrderPlace) → before_fault lines None q ≡ None
unfolding share_fault lines_in
no_names_fault lines (names p) = no_list list_name.Before _ _ p
no_names_fault lines (share name) = rw (few (lines name)) refl
  where
    few : (n : ℕ) → nat_le 0 n ≡ true
    few n = grind (arith, nat_tests)

no_ports : named_ports None ≡ []
unfolding lines_in
no_ports = refl

module _ (d : Data) (none : get (codes "before") d ≡ None) where
  same_fault : (p : Place) → fault_among race_members d p ≡ fault_at d p
  unfolding fault_among
  same_fault members = ap (λ b. cond b None (Some (error.Shape list_name.Top 0))) (only_alike (codes "before") known_members d none)
  same_fault p = refl

  no_before_fault : (q : OrderPlace) → race_fault d (before q) ≡ None
  no_before_fault q =
      subst (λ (o : Option Data). before_fault (lines_of_port d) o q ≡ None) (sym none) (no_names_fault (lines_of_port d) q)

  to_race : (r : Result ScriptFields ScriptError) → Means d r → MeansRace d (none_before r)
  to_race (Ok s) h = (faultless, record { script_says = h.1; before_is = sym (ap named_ports none ∙ no_ports) })
    where
      faultless : IsFaultless number_in_race (race_fault d)
      faultless (script q) = same_fault q ∙ h.0 q
      faultless (before q) = no_before_fault q
  to_race (Err e) h = bad_script d e record {
    place = h.place;
    is = same_fault h.place ∙ h.is;
    first = λ q earlier. same_fault q ∙ h.first q earlier;
  }

  of_race : (r : Result ScriptFields ScriptError) → MeansRace d (none_before r) → Means d r
  of_race (Ok s) h = (λ q. sym (same_fault q) ∙ h.0 (script q), h.1.script_says)
  of_race (Err e) h = go h.place h.is h.first
    where
      go : (p : RacePlace) → race_fault d p ≡ Some e
          → ((q : RacePlace) → Precedes (number_in_race q) (number_in_race p) → race_fault d q ≡ None)
          → IsFirst number_of (fault_at d) e
      go (script p) is first = record {
        place = p;
        is = sym (same_fault p) ∙ is;
        first = λ q earlier. sym (same_fault q) ∙ first (script q) earlier;
      }
      go (before p) is first = let never : race_fault d (before p) ≡ None = no_before_fault p in cc

pub script_is_a_race : ScriptIsARace
script_is_a_race d none r = (to_race d none r, of_race d none r)
