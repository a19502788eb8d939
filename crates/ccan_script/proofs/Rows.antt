-- The first fault of a row of values.
use Rattle.std.proofs.Common.{◌≡◌, ◌<◌, ◌≤◌, ◌+◌, ℕ, List, [], ◌∷◌, ◌++◌, Option, Some, None, length}
use Rattle.std.proofs.Common.{take, drop, map, get_or, refl, ap, ap₂, sym, ◌∙◌, take-append-drop}
use Rattle.std.proofs.lemmas.List.{map-append, take_all, take_more}
use Rattle.serde_json.specs.Data.{Data}
use Rattle.serde_json.specs.View.{view}
use Rattle.serde_json.specs.declared.value.Value.{Value}
use Rattle.ccan_script.specs.declared.line_fault.LineFault.{LineFault}
use Rattle.ccan_script.specs.LineFault.{first_fault}

first_after : (xs ys : List (Option LineFault)) → first_fault xs ≡ None → first_fault (xs ++ ys) ≡ first_fault ys
first_after [] ys h = refl
first_after (None ∷ xs) ys h = first_after xs ys h
first_after (Some f ∷ xs) ys h = cc

first_found : (xs ys : List (Option LineFault)) (e : LineFault) → first_fault xs ≡ Some e → first_fault (xs ++ ys) ≡ Some e
first_found [] ys e h = cc
first_found (None ∷ xs) ys e h = first_found xs ys e h
first_found (Some f ∷ xs) ys e h = h

only : (o : Option LineFault) → first_fault (o ∷ []) ≡ o
only None = refl
only (Some f) = refl

module _ (fault : Data → Option LineFault) where
  -- the first fault of the values so far
  abbrev so_far : List Value → Option LineFault
  so_far vs = first_fault (map fault (map view vs))

  viewed : {B : Type 0} (f : Data → B) (xs ys : List Value)
      → map f (map view (xs ++ ys)) ≡ map f (map view xs) ++ map f (map view ys)
  viewed f xs ys = ap (map f) (map-append view xs ys) ∙ map-append f (map view xs) (map view ys)

  pub more : (vs : List Value) (i : ℕ) (v : Value) → i < length vs → so_far (take i vs) ≡ None
      → so_far (take (i + 1) vs) ≡ fault (view (get_or vs i v))
  more vs i v h none =
      ap so_far (take_more vs i v h) ∙ ap first_fault (viewed fault (take i vs) (get_or vs i v ∷ []))
      ∙ first_after (map fault (map view (take i vs))) (fault (view (get_or vs i v)) ∷ []) none
      ∙ only (fault (view (get_or vs i v)))

  pub found : (vs : List Value) (i : ℕ) (v : Value) (e : LineFault) → i < length vs → so_far (take i vs) ≡ None
      → fault (view (get_or vs i v)) ≡ Some e
      → so_far vs ≡ Some e
  found vs i v e h none bad =
      ap so_far (sym (take-append-drop (i + 1) vs)) ∙ ap first_fault (viewed fault (take (i + 1) vs) (drop (i + 1) vs))
      ∙ first_found (map fault (map view (take (i + 1) vs))) (map fault (map view (drop (i + 1) vs))) e
      (more vs i v h none ∙ bad)

  pub whole : (vs : List Value) (i : ℕ) → length vs ≤ i → so_far (take i vs) ≡ None → so_far vs ≡ None
  whole vs i h none = ap so_far (sym (take_all i vs h)) ∙ none

-- one value more, as what it stands for
module _ {B : Type 0} (f : Data → B) where
  pub kept : (vs : List Value) (i : ℕ) (v : Value) (old new : List B) (read : B) → i < length vs
      → old ≡ map f (map view (take i vs)) → read ≡ f (view (get_or vs i v)) → new ≡ old ++ read ∷ []
      → new ≡ map f (map view (take (i + 1) vs))
  kept vs i v old new read h so_far is pushed =
      pushed ∙ ap₂ (λ a b. a ++ b ∷ []) so_far is
      ∙ sym (ap (λ t. map f (map view t)) (take_more vs i v h) ∙ ap (map f) (map-append view (take i vs) (get_or vs i v ∷ []))
      ∙ map-append f (map view (take i vs)) (view (get_or vs i v) ∷ []))

  pub kept_whole : (vs : List Value) (i : ℕ) (read : List B) → length vs ≤ i → read ≡ map f (map view (take i vs))
      → read ≡ map f (map view vs)
  kept_whole vs i read h is = is ∙ ap (λ t. map f (map view t)) (take_all i vs h)
