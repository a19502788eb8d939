-- What is answered to a question about the outcomes of a script. Source: this project's own.
use Rattle.std.specs.Prelude.{ℕ, ◌≡◌, ◌<◌, ◌++◌, ◌∷◌, [], ◌==◌, ◌&&◌, ◌||◌, not, List, Bool, true, false, Option, Some, None}
use Rattle.std.specs.Prelude.{Contains, codes, decimal, length, map, position}
use Rattle.std.specs.List.{flat_map, list_any}
use Rattle.ccan_line.specs.Script.{ScriptFields}
use Rattle.ccan_words.specs.OneWordEach.{same_object}
use Rattle.ccan_run.specs.declared.outcome.Outcome.{Outcome}
use Rattle.ccan_machine.specs.Begun.{RunsBehind}
use Rattle.ccan_outcomes.specs.declared.ending.Ending.{Ending}
use Rattle.ccan_outcomes.specs.Ending.{AreOutcomes, Shows}
use Rattle.ccan_lab.specs.Beginnings.{can_begin}
use Rattle.ccan_lab.specs.Rows.{has_line, has_lines, lines_of}

-- the first outcome that has, for each of these, a line that begins so, by its number from 0
abbrev pub first_with : List (List ℕ) → List Ending → Option ℕ
first_with begins endings = position (has_lines begins) (map lines_of endings)

-- there is none
abbrev pub is_none_so : Option ℕ → Bool
is_none_so (Some number) = false
is_none_so None = true

-- each of these, below one another
abbrev pub each_below : List (List ℕ) → List ℕ
each_below begins = flat_map (λ begin. codes "  " ++ (begin ++ codes "\n")) begins

-- what no outcome has: such a line, or such lines together
abbrev pub not_had : List (List ℕ) → List ℕ
not_had (begin ∷ []) = codes " has a line that begins so: " ++ (begin ++ codes "\n")
not_had begins = codes " has lines that begin so:\n" ++ each_below begins

abbrev pub none_text : ℕ → List (List ℕ) → List ℕ
none_text outcomes begins = codes "no outcome of " ++ (decimal outcomes ++ not_had begins)

-- ---- lines that are refused

-- a line is refused that is empty, and one that no outcome has and that no printed line of the script can begin with
abbrev pub is_refused : ScriptFields → List Ending → List ℕ → Bool
is_refused script endings begin =
    (length begin == 0) || (is_none_so (first_with (begin ∷ []) endings) && not (can_begin script begin))

-- one of several lines is refused
abbrev pub are_refused : ScriptFields → List Ending → List (List ℕ) → Bool
are_refused script endings begins = list_any (is_refused script endings) begins

-- what is shown of the outcome has a printed line that begins so
abbrev pub HasLine : ScriptFields → List ℕ → Outcome → Type 0
HasLine script begin outcome = (ending : Ending) → Shows script ending outcome → has_line begin (lines_of ending) ≡ true

-- a printed line of some outcome that the promise allows begins so
abbrev pub IsOfSomeOutcome : ScriptFields → List ℕ → Type 0
IsOfSomeOutcome script begin =
    (0 < length begin) × (outcome : Outcome) × RunsBehind same_object script outcome × HasLine script begin outcome

-- beginnings of printed lines of outcomes that the promise allows are never refused by a list of all of these
abbrev pub LinesOfOutcomesAreTaken : Type 0
LinesOfOutcomesAreTaken =
    (script : ScriptFields) (endings : List Ending) (begins : List (List ℕ)) → AreOutcomes script endings
    → ((begin : List ℕ) → Contains begins begin → IsOfSomeOutcome script begin) → are_refused script endings begins ≡ false
