-- The beginnings of lines that outcomes have are taken.
use Rattle.std.proofs.Common.{ℕ, zero, suc, ◌≡◌, ◌+◌, ◌<◌, ◌==◌, ◌&&◌, ◌||◌, not, Bool, true, false, cond, List, [], ◌∷◌, Option, Some, None, length, map, get_or, refl, sym, ap, subst, ◌∙◌, arith}
use Rattle.std.specs.List.{Contains, position_or_len, prefix_len}
use Rattle.std.proofs.lemmas.Bool.{false≢true, lt-ltb, ne_eqb}
use Rattle.ccan_language.proofs.Grown.{first_in, later_in}
use Rattle.ccan_line.specs.Script.{ScriptFields}
use Rattle.ccan_outcomes.specs.declared.ending.Ending.{Ending}
use Rattle.ccan_outcomes.specs.Ending.{AreOutcomes, AreToldAlike}
use Rattle.ccan_lab.specs.Answer.{IsOfSomeOutcome, are_refused, first_with, is_none_so, is_refused}
use Rattle.ccan_lab.specs.Beginnings.{can_begin}
use Rattle.ccan_lab.specs.Rows.{has_line, has_lines, lines_of}
use Rattle.ccan_lab.proofs.ToldLines.{prints_its_outcome}

-- an element that passes is found before the end
pub found_within : {X Y : Type 0} (f : X → Y) (p : Y → Bool) (xs : List X) (k : ℕ) (x : X) → k < length xs → get_or xs k x ≡ x
    → p (f x) ≡ true → position_or_len p (map f xs) < length (map f xs)
found_within f p [] k x within at passes = absurd (omega arith)
found_within f p (y ∷ ys) zero x within at passes = by (p (f y)) (ap (λ it. p (f it)) at ∙ passes)
  where
    by : (b : Bool) → b ≡ true
        → cond (not b) (1 + prefix_len (λ it. not (p it)) (map f ys)) 0 < suc (length (map f ys))
    by true is = omega arith
    by false is = absurd (false≢true is)
found_within f p (y ∷ ys) (suc k) x within at passes = by (found_within f p ys k x (omega arith) at passes) (p (f y))
  where
    by : prefix_len (λ it. not (p it)) (map f ys) < length (map f ys) → (b : Bool)
        → cond (not b) (1 + prefix_len (λ it. not (p it)) (map f ys)) 0 < suc (length (map f ys))
    by later true = omega arith
    by later false = omega (arith, later)

pub it_alone : (begin : List ℕ) (rows : List (List ℕ)) → has_line begin rows ≡ true → has_lines (begin ∷ []) rows ≡ true
unfolding has_lines
it_alone begin rows has = ap (λ (b : Bool). b && true) has

taken : (script : ScriptFields) (endings : List Ending) (ending : Ending) (begin : List ℕ) → Contains endings ending
    → 0 < length begin → has_line begin (lines_of ending) ≡ true → is_refused script endings begin ≡ false
taken script endings ending begin here some has =
    ap (λ (b : Bool). b || (is_none_so (first_with (begin ∷ []) endings) && not (can_begin script begin))) not_empty
    ∙ ap (λ (found : Option ℕ). is_none_so found && not (can_begin script begin)) first
  where
    place : ℕ
    place = position_or_len (has_lines (begin ∷ [])) (map lines_of endings)

    not_empty : (length begin == 0) ≡ false
    not_empty = ne_eqb (length begin) 0 (λ none. absurd (omega arith))

    within : place < length (map lines_of endings)
    within = found_within lines_of (has_lines (begin ∷ [])) endings here.0 ending here.1 here.2
        (it_alone begin (lines_of ending) has)

    first : first_with (begin ∷ []) endings ≡ Some place
    first = ap (λ (b : Bool). cond b (Some place) None) (lt-ltb place (length (map lines_of endings)) within)

none_refused : (script : ScriptFields) (endings : List Ending) (begins : List (List ℕ))
    → ((begin : List ℕ) → Contains begins begin → is_refused script endings begin ≡ false)
    → are_refused script endings begins ≡ false
none_refused script endings [] each = refl
none_refused script endings (begin ∷ begins) each =
    ap (λ (b : Bool). b || are_refused script endings begins) (each begin (first_in begin begins))
    ∙ none_refused script endings begins (λ other inside. each other (later_in begin begins other inside))

-- each outcome that the promise allows is one of the list
pub taken_of_outcomes : (script : ScriptFields) (endings : List Ending) (begins : List (List ℕ)) → AreOutcomes script endings
    → ((begin : List ℕ) → Contains begins begin → IsOfSomeOutcome script begin) → are_refused script endings begins ≡ false
taken_of_outcomes script endings begins are each = none_refused script endings begins (λ begin inside.
    let (some, outcome, runs, has) = each begin inside in
    let itself : AreToldAlike outcome outcome = record { if1 = refl; if2 = refl; bus = refl; last = refl } in
    let (told, listed, reports) = (are outcome).0 (outcome, runs, itself) in
    taken script endings told begin listed some
    (let prints = prints_its_outcome script told outcome reports in
    subst (λ (lines : List (List ℕ)). has_line begin lines ≡ true) (sym prints.lines) (has prints.ending prints.shows)))
