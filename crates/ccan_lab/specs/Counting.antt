-- How many outcomes a script has, counted and not listed. Source: this project's own.
use Rattle.std.specs.Prelude.{ℕ, ◌≡◌, ◌-◌, ◌^◌, ◌++◌, ◌==◌, Bool, List, codes, length, min, if◌then◌else◌}
use Rattle.std.specs.List.{IsDistinct}
use Rattle.ccan_line.specs.Script.{ScriptFields}
use Rattle.ccan_outcomes.specs.declared.ending.Ending.{Ending}
use Rattle.ccan_outcomes.specs.Ending.{AreAllEnds, AreOfRuns, AreOutcomes}
use Rattle.ccan_lab.specs.Report.{counted_text}

-- the greatest number that is counted to
abbrev pub greatest : ℕ
greatest = 2 ^ 64 - 1

-- the line with a number of outcomes, which may be more than are counted
abbrev pub count_text : ℕ → List ℕ
count_text number =
    (if number == greatest then codes "at least " else codes "") ++ (counted_text number (codes "outcome") ++ codes "\n")

-- the number is that of a list that has each outcome that the promise allows, as it is printed, once, and no other; each is
-- that of a run
pub record IsCount (frames : Bool) (script : ScriptFields) (eq : Ending → Ending → Bool) (number : ℕ) : Type 0 where
  pub outcomes : List Ending
  pub ends : AreAllEnds frames script outcomes
  pub are : AreOutcomes script outcomes
  pub runs : AreOfRuns script outcomes
  pub once : IsDistinct eq outcomes
  pub number_is : number ≡ min (length outcomes) greatest

-- the text is the line with that number
abbrev pub TellsCount : Bool → ScriptFields → (Ending → Ending → Bool) → List ℕ → Type 0
TellsCount frames script eq text = (number : ℕ) × IsCount frames script eq number × (text ≡ count_text number)
