-- What is printed of a place of the short list, by how many lines may stand there.
use Rattle.std.proofs.Common.{◌≡◌, ◌<◌, ◌≤◌, ◌++◌, ◌↔◌, ℕ, zero, suc, List, [], ◌∷◌, Bor, Some, length, map, get_or, slice_get, codes, refl, sym, ap, subst, ◌∙◌, arith}
use Rattle.std.proofs.lemmas.List.{length-map, map-append}
use Rattle.std.proofs.lemmas.Option.{get_or_from_slice_get}
use Rattle.std.specs.Global.{Vec}
use Rattle.std.specs.List.{flat_map}
use Rattle.ccan_lab.specs.Report.{labelled}
use Rattle.ccan_lab.specs.Sorted.{all_texts, texts_of}
use Rattle.ccan_lab.specs.Summary.{AreChoices, AreInOrder, AreLinesAt, HasChoices, choice_part, choice_text}
use Rattle.ccan_lab.specs.Summary.{choices_at, same_part}
use Rattle.ccan_line.specs.Script.{ScriptFields}
use Rattle.ccan_outcomes.specs.declared.ending.Ending.{Ending}
use Rattle.ccan_lab.proofs.Added.{each_more}

pub same_one : (lines : List (Bor (List ℕ))) (none : Bor (List ℕ)) → length lines ≡ 1
    → same_part (texts_of lines) ≡ labelled (codes "same in all: ") (get_or lines 0 none).now
unfolding same_part
same_one [] none one = absurd (omega (arith, one))
same_one (x ∷ []) none one = refl
same_one (x ∷ y ∷ more) none one = absurd (omega (arith, one))

pub same_none : (lines : List (Bor (List ℕ))) → (length lines ≡ 1 → ⊥) → same_part (texts_of lines) ≡ []
unfolding same_part
same_none [] other = refl
same_none (x ∷ []) other = absurd (other refl)
same_none (x ∷ y ∷ more) other = refl

pub choices_several : (name : List ℕ) (lines : List (Bor (List ℕ))) → 1 < length lines
    → choice_part name (texts_of lines) ≡ name ++ (codes "\n" ++ flat_map choice_text (texts_of lines))
unfolding choice_part
choices_several name [] many = absurd (omega (arith, many))
choices_several name (x ∷ []) many = absurd (omega (arith, many))
choices_several name (x ∷ y ∷ more) many = refl

pub choices_none : (name : List ℕ) (lines : List (Bor (List ℕ))) → length lines ≤ 1 → choice_part name (texts_of lines) ≡ []
unfolding choice_part
choices_none name [] few = refl
choices_none name (x ∷ []) few = refl
choices_none name (x ∷ y ∷ more) few = absurd (omega (arith, few))

-- the texts of what is mapped are those of the items
pub flat_map-map : {A B : Type 0} (f : B → List ℕ) (g : A → B) (xs : List A)
    → flat_map (λ x. f (g x)) xs ≡ flat_map f (map g xs)
flat_map-map f g [] = refl
flat_map-map f g (x ∷ xs) = ap (λ (t : List ℕ). f (g x) ++ t) (flat_map-map f g xs)

-- the lines of a place, by the list of all places
pub choices_read : (all : List (Vec (Bor (List ℕ)))) (place : ℕ) (lines : Vec (Bor (List ℕ))) → place < length all
    → lines ≡ get_or all place lines → choices_at (all_texts all) place ≡ texts_of lines.items
choices_read [] place lines low is = absurd (omega (arith, low))
choices_read (v ∷ vs) zero lines low is = ap (λ (w : Vec (Bor (List ℕ))). texts_of w.items) (sym is)
choices_read (v ∷ vs) (suc place) lines low is = choices_read vs place lines (omega (arith, low)) is

-- ---- lines in order

abbrev pub Lines : Type 0
Lines = Vec (Bor (List ℕ))

-- in each of the first places stand the lines that stood there, in order
abbrev pub AreSorted : List (List (List ℕ)) → List Lines → Type 0
AreSorted all sorted =
    (place : ℕ) (lines : List (List ℕ)) → slice_get (all_texts sorted) place ≡ Some lines
    → (rows : List (List ℕ)) → slice_get all place ≡ Some rows → AreInOrder rows lines

pub sorted_more : (all : List (List (List ℕ))) (sorted new : List Lines) (more : Lines) (rows : List (List ℕ)) (count : ℕ)
    → length sorted ≡ count → AreSorted all sorted → rows ≡ get_or all count rows → AreInOrder rows (texts_of more.items)
    → new ≡ sorted ++ more ∷ [] → AreSorted all new
sorted_more all sorted new more rows count long are is ordered pushed =
    subst (AreSorted all) (sym pushed) (λ place lines at.
    each_more (λ (k : ℕ) (l : List (List ℕ)). (here : List (List ℕ)) → slice_get all k ≡ Some here → AreInOrder here l)
    (all_texts sorted) (texts_of more.items) count (length-map sorted (λ (v : Lines). texts_of v.items) ∙ long) are
    (λ here there. subst (λ (r : List (List ℕ)). AreInOrder r (texts_of more.items))
    (is ∙ get_or_from_slice_get all count here rows there) ordered) place lines
    (sym (ap (λ (l : List (List (List ℕ))). slice_get l place)
    (map-append (λ (v : Lines). texts_of v.items) sorted (more ∷ []))) ∙ at))

-- lines in order are the choices of the place of which they are the lines
pub ordered_choices : (IsOutcome : Ending → Type 0) (place : ℕ) (rows lines : List (List ℕ)) → AreLinesAt IsOutcome place rows
    → AreInOrder rows lines → AreChoices IsOutcome place lines
ordered_choices IsOutcome place rows lines are ordered = record {
  are = record {
    right = λ line inside. are.right line (ordered.right line inside);
    complete = λ ending inside. ordered.complete _ (are.complete ending inside);
  };
  ordered = ordered.ordered;
}

-- choices of outcomes are those of the same outcomes, told otherwise
pub choices_alike : (script : ScriptFields) (IsOutcome IsOther : Ending → Type 0)
    → ((ending : Ending) → IsOutcome ending ↔ IsOther ending) → (choices : List (List (List ℕ)))
    → HasChoices script IsOutcome choices → HasChoices script IsOther choices
choices_alike script IsOutcome IsOther alike choices has = record {
  as_many = has.as_many;
  are = λ place lines at.
      let here = has.are place lines at in
      record {
        are = record {
          right = λ line inside.
              let of = here.are.right line inside in
              (of.0, (alike of.0).0 of.1, of.2);
          complete = λ ending is. here.are.complete ending ((alike ending).1 is);
        };
        ordered = here.ordered;
      };
}
