-- What is printed of the list of all outcomes of the scripts in files, piece by piece. Source: this project's own.
use Rattle.std.specs.Prelude.{ℕ, ◌≡◌, ◌++◌, Bool, List, [], Result, Ok, Err}
use Rattle.ccan_line.specs.Script.{ScriptFields}
use Rattle.ccan_outcomes.specs.contracts.ending.EndingPartialEq.TheImpl.{ghosts as ending_is}
use Rattle.ccan_lab.specs.declared.asked.Asked.{Asked}
use Rattle.ccan_lab.specs.declared.asked.Asked.TheVariants.{Summary, All, Json, Can, Never, Observed, AllObserved}
use Rattle.ccan_lab.specs.declared.lab_error.LabError.{LabError}
use Rattle.ccan_lab.specs.declared.lab_error.LabError.TheVariants as fault
use Rattle.ccan_lab.specs.declared.list_end.ListEnd.{ListEnd}
use Rattle.ccan_lab.specs.declared.list_end.ListEnd.TheVariants.{Whole, GivenUp}
use Rattle.ccan_lab.specs.declared.outcomes.OutcomesQuestion.{OutcomesQuestion}
use Rattle.ccan_lab.specs.Answered.{IsAnswered, IsSearchedFor}
use Rattle.ccan_lab.specs.EachFile.{FilePart, IsPartOf, heading_if}
use Rattle.ccan_lab.specs.LabError.{exit_status}
use Rattle.ccan_lab.specs.Outcomes.{BeginsAll, TellsAll}
use Rattle.ccan_lab.specs.Question.{AreKnown}

-- the text is the whole list, or the beginning of a list that was given up as memory ran out
abbrev pub ListsAsked : OutcomesQuestion → ScriptFields → ListEnd → List ℕ → Type 0
ListsAsked question script Whole text = TellsAll question.frames question.form script ending_is.eq question.asked text
ListsAsked question script (GivenUp why) text =
    BeginsAll question.frames question.form script ending_is.eq question.asked why text
    × (why ≡ fault.Memory)

-- the script in these bytes is listed so: its names are all known, and the list is of the script whose waits look once, and so are
-- histories
pub record ListsFile (question : OutcomesQuestion) (bytes : List ℕ) (end : ListEnd) (text : List ℕ) : Type 0 where
  pub searched : ScriptFields
  pub is_for : IsSearchedFor bytes searched
  pub known : AreKnown searched question.asked
  pub lists : ListsAsked question searched end text

-- what is printed of the file of this name: the list below the heading, and nothing if it is refused
abbrev pub IsListed : OutcomesQuestion → Bool → List ℕ → Result ListEnd LabError → List ℕ → Type 0
IsListed question shown name (Ok end) printed =
    (bytes : List ℕ) × (text : List ℕ) × ListsFile question bytes end text × (printed ≡ heading_if shown name ++ text)
IsListed question shown name (Err why) printed = IsAnswered question name (Err why) × (printed ≡ [])

-- the exit status if it is the only file: 0 if the list is whole, and else that of the fault
abbrev pub status_listed : Result ListEnd LabError → ℕ
status_listed (Ok Whole) = 0
status_listed (Ok (GivenUp why)) = exit_status why
status_listed (Err why) = exit_status why

abbrev pub IsListPart : OutcomesQuestion → Bool → List ℕ → FilePart → Type 0
IsListPart question shown name printed =
    (listed : Result ListEnd LabError) × IsListed question shown name listed printed.text
    × (printed.status ≡ status_listed listed)

-- what is printed of a file, by what is asked: of all outcomes their list, piece by piece, and else what is answered, whole
abbrev pub IsPartBy : Asked → OutcomesQuestion → Bool → List ℕ → FilePart → Type 0
IsPartBy Summary question shown = IsPartOf (IsAnswered question) shown
IsPartBy All question shown = IsListPart question shown
IsPartBy Json question shown = IsPartOf (IsAnswered question) shown
IsPartBy Can question shown = IsPartOf (IsAnswered question) shown
IsPartBy Never question shown = IsPartOf (IsAnswered question) shown
IsPartBy (Observed names) question shown = IsPartOf (IsAnswered question) shown
IsPartBy (AllObserved names) question shown = IsListPart question shown
