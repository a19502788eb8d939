-- The faults of a list of lines.
use Rattle.std.proofs.Common.{◌≡◌, ◌<◌, ◌≤◌, ◌+◌, ℕ, zero, suc, List, [], ◌∷◌, ◌++◌, true, false, Option, Some, None}
use Rattle.std.proofs.Common.{length, take, map, get_or, option_and_then, option_map, nat_lt, inl, inr}
use Rattle.std.proofs.Common.{refl, ap, sym, ◌∙◌, arith}
use Rattle.std.proofs.lemmas.Bool.{cases_lt}
use Rattle.std.proofs.lemmas.Bool.Decides.{nat_tests}
use Rattle.std.proofs.lemmas.List.{map-append, take_all, take_more}
use Rattle.std.specs.List.{slice_get}
use Rattle.std.specs.Ordering.{nat_cmp, ordering_then}
use Rattle.std.specs.declared.cmp.Ordering.{Ordering}
use Rattle.std.specs.declared.cmp.Ordering.TheVariants.{Less, Equal, Greater}
use Rattle.serde_json.specs.Data.{Data}
use Rattle.serde_json.specs.Find.{as_array}
use Rattle.serde_json.specs.View.{items_view, view}
use Rattle.serde_json.specs.declared.value.Value.{Value}
use Rattle.ccan_script.specs.declared.list_name.ListName.{ListName}
use Rattle.ccan_script.specs.declared.script_error.ScriptError.{ScriptError}
use Rattle.ccan_script.specs.declared.script_error.ScriptError.TheVariants.{Shape, TooMany}
use Rattle.ccan_script.specs.Json.{can_be_list, lines_in, list_of}
use Rattle.ccan_script.specs.Places.{IsFaultless, IsFirst, Precedes}
use Rattle.ccan_script.specs.ListPlace.{ListPlace, count, line, list, list_fault, number_in_list}
use Rattle.ccan_script.specs.Lines.{AreLines}
use Rattle.ccan_script.specs.declared.line_fault.LineFault.{LineFault}
use Rattle.ccan_script.specs.LineFault.{refusal_at}
use Rattle.ccan_script.proofs.Lines.{lines_more}
use Rattle.std.proofs.lemmas.Option.{slice_get-get_or, slice_get-map}

-- ---- the lines of a value

list_of-items_view : (vs : List Value) → list_of (items_view vs) ≡ map view vs
list_of-items_view [] = refl
list_of-items_view (v ∷ vs) = ap (λ (ds : List Data). view v ∷ ds) (list_of-items_view vs)

pub lines_are : (d : Data) (vs : List Value) → as_array d ≡ Some (items_view vs) → lines_in (Some d) ≡ map view vs
unfolding lines_in
lines_are d vs is = rw is (list_of-items_view vs)

-- ---- numbers of places

nat_less : (a b : ℕ) (o : Ordering) → nat_cmp a b ≡ o → ordering_then o Equal ≡ Less → a < b
nat_less a b Less is h = grind (arith, nat_tests)
nat_less a b Equal is h = cc
nat_less a b Greater is h = cc

pub line_before : (i j : ℕ) → Precedes (number_in_list (line j)) (number_in_list (line i)) → j < i
line_before i j h = nat_less j i (nat_cmp j i) refl h

-- ---- faults

pub length-map_view : (vs : List Value) → length (map view vs) ≡ length vs
length-map_view [] = refl
length-map_view (v ∷ vs) = ap suc (length-map_view vs)

past_end : (vs : List Value) (j : ℕ) → length vs ≤ j → slice_get (map view vs) j ≡ None
past_end [] j h = refl
past_end (v ∷ vs) zero h = absurd (omega arith)
past_end (v ∷ vs) (suc j) h = past_end vs j (omega arith)

here : (vs : List Value) (i : ℕ) (v : Value) → i < length vs → slice_get (map view vs) i ≡ Some (view (get_or vs i v))
here vs i v h = slice_get-map view vs i ∙ ap (option_map view) (slice_get-get_or vs i v h)

module _ (name : ListName) (most : ℕ) (fault : Data → Option LineFault) where
  -- the faults of a list that has this value
  abbrev faults_of : Data → ListPlace → Option ScriptError
  faults_of d = list_fault name most fault (Some d)

  -- the fault of a line that may be there
  abbrev fault_here : ℕ → Option Data → Option ScriptError
  fault_here i o = option_map (refusal_at name i) (option_and_then fault o)

  pub no_list : IsFaultless number_in_list (list_fault name most fault None)
  unfolding list_fault lines_in can_be_list
  no_list list = refl
  no_list count = let few : nat_lt most 0 ≡ false = grind (arith, nat_tests) in rw few refl
  no_list (line i) = refl

  module _ (d : Data) where
    pub not_list : as_array d ≡ None → IsFirst number_in_list (faults_of d) (Shape name 0)
    unfolding list_fault can_be_list
    not_list none = record { place = list; is = rw none refl; first = go }
      where
        go : (q : ListPlace) → Precedes (number_in_list q) (number_in_list list) → faults_of d q ≡ None
        go list h = cc
        go q h = cc

    module _ (vs : List Value) (is : as_array d ≡ Some (items_view vs)) where
      list_is_list : faults_of d list ≡ None
      unfolding list_fault can_be_list
      list_is_list = rw is refl

      few_lines : length vs ≤ most → faults_of d count ≡ None
      unfolding list_fault
      few_lines h = let few : nat_lt most (length vs) ≡ false = grind (arith, nat_tests) in
          rw (lines_are d vs is, length-map_view vs, few) refl

      many_lines : most < length vs → faults_of d count ≡ Some (TooMany name)
      unfolding list_fault
      many_lines h = let many : nat_lt most (length vs) ≡ true = grind (arith, nat_tests) in
          rw (lines_are d vs is, length-map_view vs, many) refl

      line_at : (i : ℕ) → faults_of d (line i) ≡ fault_here i (slice_get (map view vs) i)
      unfolding list_fault
      line_at i = rw (lines_are d vs is) refl

      -- the fault of a line within the list is that of its value
      pub line_here : (i : ℕ) (v : Value) → i < length vs
          → faults_of d (line i) ≡ fault_here i (Some (view (get_or vs i v)))
      line_here i v h = line_at i ∙ ap (fault_here i) (here vs i v h)

      pub line_past : (i : ℕ) → length vs ≤ i → faults_of d (line i) ≡ None
      line_past i h = line_at i ∙ ap (fault_here i) (past_end vs i h)

      pub too_many : most < length vs → IsFirst number_in_list (faults_of d) (TooMany name)
      too_many h = record { place = count; is = many_lines h; first = go }
        where
          go : (q : ListPlace) → Precedes (number_in_list q) (number_in_list count) → faults_of d q ≡ None
          go list h = list_is_list
          go count h = cc
          go (line i) h = cc

      pub bad_line : (i : ℕ) (e : ScriptError) → length vs ≤ most
          → ((j : ℕ) → j < i → faults_of d (line j) ≡ None) → faults_of d (line i) ≡ Some e
          → IsFirst number_in_list (faults_of d) e
      bad_line i e few passed bad = record { place = line i; is = bad; first = go }
        where
          go : (q : ListPlace) → Precedes (number_in_list q) (number_in_list (line i)) → faults_of d q ≡ None
          go list h = list_is_list
          go count h = few_lines few
          go (line j) h = passed j (line_before i j h)

      pub faultless : (i : ℕ) → length vs ≤ most → length vs ≤ i
          → ((j : ℕ) → j < i → faults_of d (line j) ≡ None) → IsFaultless number_in_list (faults_of d)
      faultless i few h passed list = list_is_list
      faultless i few h passed count = few_lines few
      faultless i few h passed (line j) = elim (cases_lt j i) [
        | inl below ↦ passed j below
        | inr past ↦ line_past j (omega arith)
      ]

-- ---- a loop over the lines

module _ {L : Type 0} (Says : Data → L → Type 0) where
  pub read_more : (vs : List Value) (i : ℕ) (v : Value) (old new : List L) (read : L) → i < length vs
      → AreLines Says (map view (take i vs)) old
      → Says (view (get_or vs i v)) read → new ≡ old ++ read ∷ [] → AreLines Says (map view (take (i + 1) vs)) new
  read_more vs i v old new read h so_far says pushed =
      let front : map view (take (i + 1) vs) ≡ map view (take i vs) ++ view (get_or vs i v) ∷ [] =
      ap (map view) (take_more vs i v h) ∙ map-append view (take i vs) (get_or vs i v ∷ []) in
      rw (front, pushed) (lines_more Says (map view (take i vs)) old (view (get_or vs i v)) read so_far says)

  pub read_whole : (d : Data) (vs : List Value) (i : ℕ) (read : List L) → as_array d ≡ Some (items_view vs) → length vs ≤ i
      → AreLines Says (map view (take i vs)) read
      → AreLines Says (lines_in (Some d)) read
  read_whole d vs i read is h so_far =
      let whole : lines_in (Some d) ≡ map view (take i vs) = lines_are d vs is ∙ ap (map view) (sym (take_all i vs h)) in
      rw whole so_far
