-- What is answered of the outcomes of a script, from the script on. Source: this project's own.
use Rattle.std.specs.Prelude.{ℕ, ◌≡◌, ◌≤◌, Bool, List, length}
use Rattle.std.specs.List.{IsDistinct}
use Rattle.ccan_line.specs.Script.{ScriptFields}
use Rattle.ccan_outcomes.specs.declared.ending.Ending.{Ending}
use Rattle.ccan_outcomes.specs.Ending.{AreAllEnds, AreOfRuns, AreOutcomes}
use Rattle.ccan_lab.specs.declared.asked.Asked.{Asked}
use Rattle.ccan_lab.specs.declared.asked.Asked.TheVariants.{Summary, All, Json, Can, Never, Observed, AllObserved}
use Rattle.ccan_lab.specs.declared.history_form.HistoryForm.{HistoryForm}
use Rattle.ccan_lab.specs.declared.lab_error.LabError.{LabError}
use Rattle.ccan_lab.specs.declared.lab_error.LabError.TheVariants as fault
use Rattle.ccan_lab.specs.Listing.{IsListingTo}
use Rattle.ccan_lab.specs.Observed.{IsObservedListingTo, names_in}

-- what is asked is asked of the list of all outcomes
abbrev pub IsOfAll : Asked → Type 0
IsOfAll Summary = ⊥
IsOfAll All = Unit {0}
IsOfAll Json = ⊥
IsOfAll Can = ⊥
IsOfAll Never = ⊥
IsOfAll (Observed names) = ⊥
IsOfAll (AllObserved names) = Unit {0}

-- it is not
abbrev pub IsNotOfAll : Asked → Type 0
IsNotOfAll Summary = Unit {0}
IsNotOfAll All = ⊥
IsNotOfAll Json = Unit {0}
IsNotOfAll Can = Unit {0}
IsNotOfAll Never = Unit {0}
IsNotOfAll (Observed names) = Unit {0}
IsNotOfAll (AllObserved names) = ⊥

-- the text answers what is asked of the list of all outcomes, reported with frames or without, with histories in this form, up to
-- the outcome before this number
abbrev pub AnswersTo : Bool → HistoryForm → ScriptFields → List Ending → Asked → ℕ → List ℕ → Type 0
AnswersTo frames form script endings Summary count text = ⊥
AnswersTo frames form script endings All count text = IsListingTo frames form script endings count text
AnswersTo frames form script endings Json count text = ⊥
AnswersTo frames form script endings Can count text = ⊥
AnswersTo frames form script endings Never count text = ⊥
AnswersTo frames form script endings (Observed names) count text = ⊥
AnswersTo frames form script endings (AllObserved names) count text =
    IsObservedListingTo frames form (names_in names.now) script endings count text

-- the text answers what is asked of a list that has each outcome that the promise allows, as it is printed, once, and no other,
-- with the frames that won the bus if they are asked for; each is that of a run
pub record TellsAll (frames : Bool) (form : HistoryForm) (script : ScriptFields) (eq : Ending → Ending → Bool) (asked : Asked)
    (text : List ℕ) : Type 0 where
  pub outcomes : List Ending
  pub ends : AreAllEnds frames script outcomes
  pub are : AreOutcomes script outcomes
  pub runs : AreOfRuns script outcomes
  pub once : IsDistinct eq outcomes
  pub text_is : AnswersTo frames form script outcomes asked (length outcomes) text

-- the text begins such an answer, and was given up for this reason: it has the outcomes before some number, and not all of them,
-- unless memory ran out behind the last
pub record BeginsAll (frames : Bool) (form : HistoryForm) (script : ScriptFields) (eq : Ending → Ending → Bool) (asked : Asked)
    (why : LabError) (text : List ℕ) : Type 0 where
  pub outcomes : List Ending
  pub ends : AreAllEnds frames script outcomes
  pub are : AreOutcomes script outcomes
  pub runs : AreOfRuns script outcomes
  pub once : IsDistinct eq outcomes
  pub count : ℕ
  pub within : count ≤ length outcomes
  pub behind : count ≡ length outcomes → why ≡ fault.Memory
  pub text_is : AnswersTo frames form script outcomes asked count text
