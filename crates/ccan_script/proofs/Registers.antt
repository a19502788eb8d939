-- One member more of an object that sets registers, and that it has no more members than there are registers.
use Rattle.std.proofs.Common.{◌≡◌, ◌≤◌, ℕ, List, [], ◌∷◌, ◌++◌, ◌&&◌, ◌||◌, Bool, true, false, cond, Option}
use Rattle.std.proofs.Common.{Some, None, Less, is_eq, length, option_map, option_and_then, is_some, map, string_bytes}
use Rattle.std.proofs.Common.{string_cmp, refl, ap, sym, ◌∙◌, arith, true≢false, bytes_eq}
use Rattle.std.proofs.lemmas.Cmp.{nat_list_eq_equiv}
use Rattle.std.proofs.lemmas.List.{length-map}
use Rattle.std.proofs.lemmas.Map.Made.{length-le_from_is_member}
use Rattle.std.proofs.lemmas.Map.Steps.{list_any_congr}
use Rattle.std.proofs.lemmas.Map.Text.{is_eq-slice_cmp}
use Rattle.std.specs.List.{AllByRecursion, IsDistinct, find, list_any}
use Rattle.std.specs.List.Sorted.{IsStrictlySortedBy}
use Rattle.std.specs.Map.{keys_of}
use Rattle.serde_json.specs.View.{view, members_view}
use Rattle.serde_json.proofs.Views.{Entry}
use Rattle.ccan_object.specs.declared.register.Reg.{Reg}
use Rattle.ccan_script.specs.RegisterSet.{register_name, register_named, registers, setting, settings}
use Rattle.ccan_script.proofs.Words.{and_left, and_right}

-- ---- one member more

module _ {X : Type 0} where
  one : (o : Option X) → option_and_then (λ first. option_map (λ rest. first ∷ rest) (Some [])) o ≡ option_map (λ s. s ∷ []) o
  one None = refl
  one (Some s) = refl

  more : (o : Option X) (p : Option (List X)) (q : Option X)
      → option_and_then (λ f. option_map (λ rest. f ∷ rest) (option_and_then (λ set. option_map (λ s. set ++ s ∷ []) o) p)) q
      ≡ option_and_then (λ set. option_map (λ s. set ++ s ∷ []) o) (option_and_then (λ f. option_map (λ rest. f ∷ rest) p) q)
  more o p None = refl
  more o None (Some f) = refl
  more None (Some set) (Some f) = refl
  more (Some s) (Some set) (Some f) = refl

  spoilt : (q : Option X) → option_and_then (λ f. option_map (λ rest. f ∷ rest) None) q ≡ None
  spoilt None = refl
  spoilt (Some f) = refl

  both : (o : Option X) (p : Option (List X)) → is_some (option_and_then (λ f. option_map (λ rest. f ∷ rest) p) o)
      ≡ (is_some o && is_some p)
  both None p = refl
  both (Some s) None = refl
  both (Some s) (Some set) = refl

abbrev set_by : Entry → Option (Reg × ℕ)
set_by e = setting (string_bytes e.0) (view e.1)

appended : (done : List Entry) (e : Entry) → settings (members_view (done ++ e ∷ []))
    ≡ option_and_then (λ set. option_map (λ s. set ++ s ∷ []) (set_by e)) (settings (members_view done))
appended [] e = one (set_by e)
appended (first ∷ done) e =
    ap (λ p. option_and_then (λ f. option_map (λ rest. f ∷ rest) p) (set_by first)) (appended done e)
    ∙ more (set_by e) (settings (members_view done)) (set_by first)

-- what it sets comes last
pub set_more : (done : List Entry) (e : Entry) (set : List (Reg × ℕ)) (s : Reg × ℕ) → settings (members_view done) ≡ Some set
    → set_by e ≡ Some s → settings (members_view (done ++ e ∷ [])) ≡ Some (set ++ s ∷ [])
set_more done e set s so_far here = appended done e ∙ rw (so_far, here) refl

-- a member that sets nothing spoils the others
pub not_set : (done : List Entry) (e : Entry) (rest : List Entry) → set_by e ≡ None
    → settings (members_view (done ++ e ∷ rest)) ≡ None
not_set [] e rest here = rw here refl
not_set (first ∷ done) e rest here = rw (not_set done e rest here) (spoilt (set_by first))

-- ---- how many members there can be

abbrev names : List Entry → List (List ℕ)
names es = map (λ e. string_bytes e.0) es

abbrev register_names : List (List ℕ)
register_names = map register_name registers

apart : (e : Entry) (es rest : List Entry) → AllByRecursion (λ y. string_cmp e.0 y ≡ Less) (keys_of (es ++ rest))
    → AllByRecursion (λ name. bytes_eq (string_bytes e.0) name ≡ false) (names es)
apart e [] rest h = tt
apart e (x ∷ es) rest h = (sym (is_eq-slice_cmp (string_bytes e.0) (string_bytes x.0)) ∙ ap is_eq h.0, apart e es rest h.1)

distinct : (es rest : List Entry) → IsStrictlySortedBy string_cmp (keys_of (es ++ rest)) → IsDistinct bytes_eq (names es)
unfolding IsStrictlySortedBy IsDistinct
distinct [] rest h = tt
distinct (e ∷ es) rest h = (apart e es rest h.0, distinct es rest h.1)

found_or_later : (b t : Bool) (r : Reg) (later : Option Reg) → is_some (cond b (Some r) later) ≡ true
    → (is_some later ≡ true → t ≡ true) → (b || t) ≡ true
found_or_later true t r later h f = refl
found_or_later false t r later h f = f h

known : (name : List ℕ) (rs : List Reg) → is_some (find (λ r. bytes_eq name (register_name r)) rs) ≡ true
    → list_any (bytes_eq name) (map register_name rs) ≡ true
known name [] h = h
known name (r ∷ rs) h = found_or_later (bytes_eq name (register_name r)) _ r _ h (known name rs)

first_there : {X Y : Type 0} (g : X → Option Y) (o : Option X) → is_some (option_and_then g o) ≡ true → is_some o ≡ true
first_there g None h = h
first_there g (Some x) h = refl

is_register : (e : Entry) → is_some (set_by e) ≡ true → list_any (bytes_eq (string_bytes e.0)) register_names ≡ true
unfolding setting register_named
is_register e h = known (string_bytes e.0) registers (first_there _ _ h)

either : (a b c : Bool) → (a || b) ≡ true → (a ≡ true → c ≡ true) → (b ≡ true → c ≡ true) → c ≡ true
either true b c h f g = f refl
either false b c h f g = g h

within : (es : List Entry) → is_some (settings (members_view es)) ≡ true → (q : List ℕ)
    → list_any (bytes_eq q) (names es) ≡ true → list_any (bytes_eq q) register_names ≡ true
within [] h q there = absurd (true≢false (sym there))
within (e ∷ es) h q there =
    let each = sym (both (set_by e) (settings (members_view es))) ∙ h in
    either (bytes_eq q (string_bytes e.0)) _ _ there
    (λ same. list_any_congr nat_list_eq_equiv q (string_bytes e.0) register_names same ∙ is_register e (and_left _ _ each))
    (within es (and_right (is_some (set_by e)) _ each) q)

pub few : (es rest : List Entry) → IsStrictlySortedBy string_cmp (keys_of (es ++ rest))
    → is_some (settings (members_view es)) ≡ true → length es ≤ 10
few es rest sorted all =
    let fits = length-le_from_is_member nat_list_eq_equiv (names es) register_names (distinct es rest sorted) (within es all) in
    omega (arith, fits, length-map es (λ e. string_bytes e.0))
