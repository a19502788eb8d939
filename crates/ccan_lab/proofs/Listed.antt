-- What is printed of the list of all outcomes.
use Rattle.std.proofs.Common.{◌≡◌, ◌<◌, ◌≤◌, nat_lt, ℕ, zero, suc, Bool, true, false, List, [], ◌∷◌, Bor, Some, None, length, map, get_or, slice_get, option_map, unwrap_or, if◌then◌else◌, refl, sym, ap, ◌∙◌, arith}
use Rattle.std.proofs.lemmas.Bool.{lt-ltb}
use Rattle.std.proofs.lemmas.List.{length-map}
use Rattle.std.proofs.lemmas.Option.{slice_get-map, slice_get_within}
use Rattle.ccan_line.specs.Script.{ScriptFields}
use Rattle.ccan_outcomes.specs.declared.ending.Ending.{Ending}
use Rattle.ccan_search.proofs.WayOn.{there_within}
use Rattle.ccan_lab.specs.Listing.{different_line, different_lines}
use Rattle.ccan_lab.specs.Observed.{places_of}
use Rattle.ccan_lab.specs.Report.{each}
use Rattle.ccan_lab.specs.Rows.{line_at, rows_at, rows_of}
use Rattle.ccan_lab.specs.Sorted.{AreAllInOrder, all_texts, texts_of}
use Rattle.ccan_lab.specs.Summary.{AreLinesAt, HasChoices, choices_at}
use Rattle.ccan_lab.proofs.Parts.{Lines, choices_read, ordered_choices}

-- the lines of all places, each once and in order, are the choices of these places
pub has_choices : (script : ScriptFields) (IsOutcome : Ending → Type 0) (rows choices : List (List (List ℕ)))
    → length rows ≡ places_of script
    → ((place : ℕ) (lines : List (List ℕ)) → slice_get rows place ≡ Some lines → AreLinesAt IsOutcome place lines)
    → AreAllInOrder rows choices → HasChoices script IsOutcome choices
has_choices script IsOutcome rows choices many are ordered = record {
  as_many = ordered.as_many ∙ many;
  are = λ place lines at.
      let low = slice_get_within choices place lines at in
      let same = ordered.as_many in
      let here = there_within rows place (omega (arith, low, same)) in
      ordered_choices IsOutcome place here.0 lines (are place here.0 here.1) (ordered.are place here.0 lines here.1 at);
}

-- how many lines may stand in a place
how_many : (all : List Lines) (place : ℕ) (lines : Lines) → place < length all → lines ≡ get_or all place lines
    → length (choices_at (all_texts all) place) ≡ length lines.items
how_many all place lines low is =
    ap (λ (l : List (List ℕ)). length l) (choices_read all place lines low is)
    ∙ length-map lines.items (λ (line : Bor (List ℕ)). line.now)

pub line_shown : (all : List Lines) (place : ℕ) (lines : Lines) (rows : List (List ℕ)) → place < length all
    → lines ≡ get_or all place lines → 1 < length lines.items → different_line (all_texts all) rows place ≡ line_at rows place
unfolding different_line
line_shown all place lines rows low is many =
    let count = how_many all place lines low is in
    ap (λ (b : Bool). if b then line_at rows place else []) (ap (nat_lt 1) count ∙ lt-ltb 1 (length lines.items) many)

pub line_left : (all : List Lines) (place : ℕ) (lines : Lines) (rows : List (List ℕ)) → place < length all
    → lines ≡ get_or all place lines → (1 < length lines.items → ⊥) → different_line (all_texts all) rows place ≡ []
unfolding different_line
line_left all place lines rows low is few =
    let count = how_many all place lines low is in
    ap (λ (b : Bool). if b then line_at rows place else []) (ap (nat_lt 1) count ∙ by (nat_lt 1 (length lines.items)) refl)
  where
    by : (b : Bool) → nat_lt 1 (length lines.items) ≡ b → nat_lt 1 (length lines.items) ≡ false
    by false so = so
    by true so = absurd (few (grind (arith, so)))

pub all_places : (all : List Lines) (rows : List (List ℕ))
    → each (length all) (different_line (all_texts all) rows) ≡ different_lines (all_texts all) rows
all_places all rows =
    ap (λ (n : ℕ). each n (different_line (all_texts all) rows)) (sym (length-map all (λ (v : Lines). texts_of v.items)))

-- the rows of the outcome of a number
pub rows_there : (endings : List Ending) (number : ℕ) (ending : Ending) → slice_get endings number ≡ Some ending
    → rows_at (map rows_of endings) number ≡ rows_of ending
unfolding rows_at
rows_there endings number ending at =
    ap (λ (o : _). unwrap_or o []) (slice_get-map rows_of endings number ∙ ap (λ (o : _). option_map rows_of o) at)

-- behind the last item there is none
pub past_all : {X : Type 0} (xs : List X) (n : ℕ) → slice_get xs n ≡ None → length xs ≤ n
past_all [] n at = omega arith
past_all (x ∷ xs) zero at = absurd cc
past_all (x ∷ xs) (suc n) at = let later = past_all xs n at in omega (arith, later)
