-- Which lines are refused.
use Rattle.std.proofs.Common.{◌≡◌, ◌||◌, ◌&&◌, ◌==◌, not, ℕ, Bool, true, false, List, [], ◌∷◌, Some, None, Option, Contains, length, slice_get, is_some, refl, sym, ap, ◌∙◌}
use Rattle.std.proofs.lemmas.Bool.{true≢false}
use Rattle.std.proofs.lemmas.Option.{get_or_from_slice_get, slice_get_within}
use Rattle.ccan_line.specs.Script.{ScriptFields}
use Rattle.ccan_outcomes.specs.declared.ending.Ending.{Ending}
use Rattle.ccan_lab.specs.Answer.{first_with, is_none_so, is_refused}
use Rattle.ccan_lab.specs.Beginnings.{can_begin}

pub contains_at : {X : Type 0} (xs : List X) (k : ℕ) (x : X) → slice_get xs k ≡ Some x → Contains xs x
contains_at xs k x at = (k, slice_get_within xs k x at, get_or_from_slice_get xs k x x at)

-- ---- a line that is refused

-- one with which a printed line can begin is not
pub not_refused : (script : ScriptFields) (endings : List Ending) (begin : List ℕ) → (length begin == 0) ≡ false
    → can_begin script begin ≡ true → is_refused script endings begin ≡ false
not_refused script endings begin some can =
    ap (λ (b : Bool). b || (is_none_so (first_with (begin ∷ []) endings) && not (can_begin script begin))) some
    ∙ ap (λ (b : Bool). is_none_so (first_with (begin ∷ []) endings) && not b) can
    ∙ never (is_none_so (first_with (begin ∷ []) endings))
  where
    never : (b : Bool) → (b && false) ≡ false
    never true = refl
    never false = refl

-- and any other is exactly if no outcome has it
pub refused_by_none : (script : ScriptFields) (endings : List Ending) (begin : List ℕ) → (length begin == 0) ≡ false
    → can_begin script begin ≡ false → (found : Option ℕ) → found ≡ first_with (begin ∷ []) endings
    → (none : Bool) → is_some found ≡ not none → none ≡ is_refused script endings begin
refused_by_none script endings begin some cannot found is none is_none =
    by found none is_none
    ∙ ap is_none_so is
    ∙ sym (
    ap (λ (b : Bool). b || (is_none_so (first_with (begin ∷ []) endings) && not (can_begin script begin))) some
    ∙ ap (λ (b : Bool). is_none_so (first_with (begin ∷ []) endings) && not b) cannot
    ∙ always (is_none_so (first_with (begin ∷ []) endings))
    )
  where
    always : (b : Bool) → (b && true) ≡ b
    always true = refl
    always false = refl

    by : (found : Option ℕ) (none : Bool) → is_some found ≡ not none → none ≡ is_none_so found
    by (Some n) true h = absurd (true≢false h)
    by (Some n) false h = refl
    by None true h = refl
    by None false h = absurd (true≢false (sym h))
