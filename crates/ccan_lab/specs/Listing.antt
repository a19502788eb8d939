-- What is printed of all outcomes of a script, each with a history, and of one of them. Source: this project's own.
use Rattle.std.specs.Prelude.{ℕ, zero, suc, ◌≡◌, ◌++◌, nat_lt, Bool, List, [], Some, length, map, min, if◌then◌else◌}
use Rattle.std.specs.List.{Contains}
use Rattle.ccan_line.specs.Script.{ScriptFields}
use Rattle.ccan_outcomes.specs.declared.ending.Ending.{Ending}
use Rattle.ccan_lab.specs.declared.history_form.HistoryForm.{HistoryForm}
use Rattle.ccan_lab.specs.Answer.{first_with}
use Rattle.ccan_lab.specs.Counting.{count_text, greatest}
use Rattle.ccan_lab.specs.OutcomeText.{IsOutcomeText}
use Rattle.ccan_lab.specs.Report.{each}
use Rattle.ccan_lab.specs.Rows.{line_at, rows_at, rows_of}
use Rattle.ccan_lab.specs.Summary.{HasChoices, choices_at, same_parts}

-- the line of an outcome in a place, if several may be there
unfoldable pub different_line : List (List (List ℕ)) → List (List ℕ) → ℕ → List ℕ
different_line choices rows place = if nat_lt 1 (length (choices_at choices place)) then line_at rows place else []

-- the lines of an outcome that are not the same in all
abbrev pub different_lines : List (List (List ℕ)) → List (List ℕ) → List ℕ
different_lines choices rows = each (length choices) (different_line choices rows)

-- the text is that of the outcome of this number, from 0, with those lines, and with a history in this form
abbrev pub IsNumberedText : Bool → HistoryForm → ScriptFields → List Ending → List (List (List ℕ)) → ℕ → List ℕ → Type 0
IsNumberedText frames form script endings choices number text =
    IsOutcomeText frames form script endings (different_lines choices (rows_at (map rows_of endings) number)) number text

-- the text is that of the outcomes before this number, in turn
abbrev pub AreOutcomeTexts : Bool → HistoryForm → ScriptFields → List Ending → List (List (List ℕ)) → ℕ → List ℕ → Type 0
AreOutcomeTexts frames form script endings choices zero text = text ≡ []
AreOutcomeTexts frames form script endings choices (suc number) text =
    (before : List ℕ) × (last : List ℕ) × (text ≡ before ++ last)
    × AreOutcomeTexts frames form script endings choices number before
    × IsNumberedText frames form script endings choices number last

-- the number of outcomes, what is the same in all, and each outcome before this number with a history
pub record IsListingTo (frames : Bool) (form : HistoryForm) (script : ScriptFields) (endings : List Ending) (count : ℕ)
    (text : List ℕ) : Type 0 where
  pub choices : List (List (List ℕ))
  pub has_choices : HasChoices script (Contains endings) choices
  pub outcomes : List ℕ
  pub are : AreOutcomeTexts frames form script endings choices count outcomes
  pub text_is : text ≡ count_text (min (length endings) greatest) ++ (same_parts choices ++ outcomes)

-- the number of outcomes, and the one of this number, from 0, with a history
pub record IsOneText (frames : Bool) (form : HistoryForm) (script : ScriptFields) (endings : List Ending) (number : ℕ)
    (text : List ℕ) : Type 0 where
  pub choices : List (List (List ℕ))
  pub has_choices : HasChoices script (Contains endings) choices
  pub outcome : List ℕ
  pub is_one : IsNumberedText frames form script endings choices number outcome
  pub text_is : text ≡ count_text (min (length endings) greatest) ++ outcome

-- the number of outcomes, and the first of them that has these lines, with a history
abbrev pub IsFoundText : Bool → HistoryForm → ScriptFields → List Ending → List (List ℕ) → List ℕ → Type 0
IsFoundText frames form script endings begins text =
    (number : ℕ) × (first_with begins endings ≡ Some number) × IsOneText frames form script endings number text
