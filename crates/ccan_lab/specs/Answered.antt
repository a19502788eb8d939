-- What `ccan-lab outcomes` and `ccan-lab count` answer for the script in a file. Source: this project's own.
use Rattle.std.specs.Prelude.{ℕ, ◌≡◌, ◌+◌, ◌⊎◌, Bool, true, false, not, List, Some, Result, Ok, Err, map, option_map, position}
use Rattle.ccan_script.specs.Race.{RaceFields, RefusesRace, ShowsRace}
use Rattle.ccan_script.specs.Reader.{RefusesText}
use Rattle.ccan_line.specs.Script.{ScriptFields}
use Rattle.ccan_machine.specs.WaitLaws.{looking_once}
use Rattle.ccan_run.specs.declared.run_error.RunError.TheVariants as input
use Rattle.ccan_outcomes.specs.contracts.all_ports.AllPortsPartialEq.TheImpl.{ghosts as ports_are}
use Rattle.ccan_outcomes.specs.contracts.ending.EndingPartialEq.TheImpl.{ghosts as ending_is}
use Rattle.ccan_outcomes.specs.declared.ending.Ending.{Ending}
use Rattle.ccan_outcomes.specs.Ending.{IsOfEnd}
use Rattle.ccan_outcomes.specs.Race.{behind}
use Rattle.ccan_outcomes.specs.Waits.{HaveSameEnds, HaveSameOutcomes}
use Rattle.ccan_lab.specs.declared.asked.Asked.{Asked}
use Rattle.ccan_lab.specs.declared.asked.Asked.TheVariants.{Summary, All, Json, Can, Never, Observed, AllObserved}
use Rattle.ccan_lab.specs.declared.each_file.FileAnswer.{FileAnswer}
use Rattle.ccan_lab.specs.declared.lab_error.LabError.{LabError}
use Rattle.ccan_lab.specs.declared.lab_error.LabError.TheVariants as fault
use Rattle.ccan_lab.specs.declared.outcomes.OutcomesQuestion.{OutcomesQuestion}
use Rattle.ccan_lab.specs.Counting.{TellsCount}
use Rattle.ccan_lab.specs.Observed.{is_known, names_in}
use Rattle.ccan_lab.specs.Paging.{TellsJson, page_name}
use Rattle.ccan_lab.specs.Question.{AreKnown}
use Rattle.ccan_lab.specs.Rows.{has_lines, lines_of}
use Rattle.ccan_lab.specs.Seen.{HasNoSeenList, TellsSeen}
use Rattle.ccan_lab.specs.Sorted.{texts_of}
use Rattle.ccan_lab.specs.Summary.{TellsSummary, TellsWithoutNumber}
use Rattle.ccan_lab.specs.Words.{AnswersLine, HasNoGraph, HasNoWords, IsUnanswered}

-- ---- the script that is searched

-- the script of a race, with the lines that run before it as its order
abbrev pub raced : RaceFields → ScriptFields
raced race = behind race.before race.script

-- it is the script for a race in these bytes, except that each wait looks once; both have the same outcomes, by the same frames
pub record IsSearchedFor (bytes : List ℕ) (searched : ScriptFields) : Type 0 where
  pub race : RaceFields
  pub read : ShowsRace bytes (Ok race)
  pub once : searched ≡ looking_once (raced race)
  pub same_outcomes : HaveSameOutcomes (raced race) searched
  pub same_ends : HaveSameEnds (raced race) searched

-- why there is none: the reader of scripts for a race refuses the bytes, or memory ran out
abbrev pub RefusesBytes : List ℕ → LabError → Type 0
RefusesBytes bytes (fault.Input (input.Script why)) = RefusesRace bytes why
RefusesBytes bytes fault.Memory = Unit {0}
RefusesBytes bytes _ = ⊥

-- why there is no script to run: the reader of scripts refuses the bytes, or memory ran out
abbrev pub RefusesScript : List ℕ → LabError → Type 0
RefusesScript bytes (fault.Input (input.Script why)) = RefusesText bytes why
RefusesScript bytes fault.Memory = Unit {0}
RefusesScript bytes _ = ⊥

-- why there are no bytes: the file can't be opened, or a read fails, or they are too many, or memory ran out
abbrev pub IsUnread : LabError → Type 0
IsUnread fault.Open = Unit {0}
IsUnread (fault.Input input.Read) = Unit {0}
IsUnread (fault.Input input.TooLong) = Unit {0}
IsUnread (fault.Input input.Memory) = Unit {0}
IsUnread fault.Memory = Unit {0}
IsUnread _ = ⊥

-- ---- the exit status

-- the ports can come to an end that, as it is reported, has for each of these beginnings a line that begins so
abbrev pub CanHave : Bool → ScriptFields → List (List ℕ) → Type 0
CanHave frames script begins =
    (told : Ending) × IsOfEnd frames script told × (has_lines begins (lines_of told) ≡ true)

-- the status is the one exactly if it is so, and the other exactly if it isn't
abbrev pub IsOneIf : Type 0 → ℕ → ℕ → ℕ → Type 0
IsOneIf IsSo one other status = (IsSo × (status ≡ one)) ⊎ (¬ IsSo × (status ≡ other))

-- --can ends with 6 exactly if no end to which the ports can come has all the lines, --never exactly if one has; the short list with
-- 0 or 5, by whether it has the number of outcomes; all else with 0
abbrev pub EndsAsAsked : Asked → Bool → ScriptFields → List (List ℕ) → ℕ → Type 0
EndsAsAsked Can frames script lines status = IsOneIf (CanHave frames script lines) 0 6 status
EndsAsAsked Never frames script lines status = IsOneIf (CanHave frames script lines) 6 0 status
EndsAsAsked Summary frames script lines status = (status ≡ 0) ⊎ (status ≡ 5)
EndsAsAsked All frames script lines status = status ≡ 0
EndsAsAsked Json frames script lines status = status ≡ 0
EndsAsAsked (Observed names) frames script lines status = status ≡ 0
EndsAsAsked (AllObserved names) frames script lines status = status ≡ 0

-- the status of an answer that is as asked, or isn't
abbrev pub status_if : Bool → ℕ
status_if true = 0
status_if false = 6

-- ---- what is answered of a script

-- what is printed for --can, or for --never, with the status of such an answer
abbrev pub TellsLines : OutcomesQuestion → ScriptFields → Bool → FileAnswer → Type 0
TellsLines question script never answer =
    (holds : Bool) × (answer.status ≡ status_if holds)
    × AnswersLine question.frames question.form script ending_is.eq question.most (texts_of question.lines.items) never
    answer.text.items holds

-- the short list, with status 0; or it without the number, as the outcomes need too many nodes, with status 5
abbrev pub TellsShortList : Bool → ScriptFields → (Ending → Ending → Bool) → ℕ → FileAnswer → Type 0
TellsShortList frames script eq most answer =
    (TellsSummary frames script eq answer.text.items × (answer.status ≡ 0))
    ⊎ (TellsWithoutNumber frames script most answer.text.items × (answer.status ≡ 5))

-- what is printed, by what is asked; only JSON has the file's name. The list of all outcomes is no such answer: it is printed piece
-- by piece
abbrev pub TellsBy : Asked → OutcomesQuestion → List ℕ → ScriptFields → FileAnswer → Type 0
TellsBy Summary question name script answer = TellsShortList question.frames script ending_is.eq question.most answer
TellsBy Can question name script answer = TellsLines question script false answer
TellsBy Never question name script answer = TellsLines question script true answer
TellsBy (Observed names) question name script answer =
    TellsSeen question.frames question.form (names_in names.now) script ending_is.eq answer.text.items
TellsBy All question name script answer = ⊥
TellsBy (AllObserved names) question name script answer = ⊥
TellsBy Json question name script answer = TellsJson question.frames name script ending_is.eq answer.text.items

-- what is printed and the status are those of what is asked of the script
pub record AnswersAsked (question : OutcomesQuestion) (name : List ℕ) (script : ScriptFields) (answer : FileAnswer) : Type 0 where
  pub tells : TellsBy question.asked question name script answer
  pub ends : EndsAsAsked question.asked question.frames script (texts_of question.lines.items) answer.status

-- why there is no answer, by what is asked: too many states or nodes for it (for the short list only states), a line that is
-- refused, or lack of memory. Of the list of all outcomes it is why nothing is printed
abbrev pub RefusesBy : Asked → OutcomesQuestion → ScriptFields → LabError → Type 0
RefusesBy Summary question script why = HasNoGraph script ports_are.eq question.most why
RefusesBy Can question script why =
    IsUnanswered question.frames script (texts_of question.lines.items) ports_are.eq question.most why
RefusesBy Never question script why =
    IsUnanswered question.frames script (texts_of question.lines.items) ports_are.eq question.most why
RefusesBy (Observed names) question script why =
    HasNoSeenList question.frames (names_in names.now) script ports_are.eq question.most why
RefusesBy All question script why = HasNoWords question.frames script ports_are.eq question.most why
RefusesBy (AllObserved names) question script why = HasNoWords question.frames script ports_are.eq question.most why
RefusesBy Json question script why = HasNoWords question.frames script ports_are.eq question.most why

abbrev pub RefusesAsked : OutcomesQuestion → ScriptFields → LabError → Type 0
RefusesAsked question script why = RefusesBy question.asked question script why

-- the first name of the list that is of no line and no object has this number, from 1; or memory ran out
abbrev pub RefusesNames : ScriptFields → List ℕ → LabError → Type 0
RefusesNames script list (fault.NoPlace number) =
    option_map (λ place. place + 1) (position not (map (is_known script) (names_in list))) ≡ Some number
RefusesNames script list fault.Memory = Unit {0}
RefusesNames script list _ = ⊥

-- the same of the names of what is to be looked at
abbrev pub RefusesUnknown : ScriptFields → Asked → LabError → Type 0
RefusesUnknown script (Observed names) why = RefusesNames script names.now why
RefusesUnknown script (AllObserved names) why = RefusesNames script names.now why
RefusesUnknown script Summary why = ⊥
RefusesUnknown script All why = ⊥
RefusesUnknown script Json why = ⊥
RefusesUnknown script Can why = ⊥
RefusesUnknown script Never why = ⊥

-- ---- what is answered of a file

-- the script in these bytes is answered for: its names are all known, what is printed is of the script whose waits look once, and
-- so are histories, and the status is that of the script in the bytes
pub record AnswersFile (question : OutcomesQuestion) (name bytes : List ℕ) (answer : FileAnswer) : Type 0 where
  pub searched : ScriptFields
  pub is_for : IsSearchedFor bytes searched
  pub known : AreKnown searched question.asked
  pub tells : TellsBy question.asked question name searched answer
  pub ends : EndsAsAsked question.asked question.frames (raced is_for.race) (texts_of question.lines.items) answer.status

-- why it is not: the bytes are no script, a name is not known in it, or it has no answer
abbrev pub RefusesFile : OutcomesQuestion → List ℕ → LabError → Type 0
RefusesFile question bytes why =
    RefusesBytes bytes why
    ⊎ ((searched : ScriptFields) × IsSearchedFor bytes searched
    × (RefusesUnknown searched question.asked why ⊎ RefusesAsked question searched why))

-- what was read of the file of this name is answered for, or there is a reason why it isn't
abbrev pub IsAnswered : OutcomesQuestion → List ℕ → Result FileAnswer LabError → Type 0
IsAnswered question name (Ok answer) = (bytes : List ℕ) × AnswersFile question (page_name (Some name)) bytes answer
IsAnswered question name (Err why) = IsUnread why ⊎ ((bytes : List ℕ) × RefusesFile question bytes why)

-- the lines of an answer name its file: those of JSON do
abbrev pub names_its_file : Asked → Bool
names_its_file Json = true
names_its_file Summary = false
names_its_file All = false
names_its_file Can = false
names_its_file Never = false
names_its_file (Observed names) = false
names_its_file (AllObserved names) = false

-- ---- what is counted of a file

-- what is printed is the number of outcomes that the promise allows of the script in these bytes, told apart by what is
-- printed, with frames or without
pub record AnswersCount (frames : Bool) (bytes : List ℕ) (answer : FileAnswer) : Type 0 where
  pub race : RaceFields
  pub read : ShowsRace bytes (Ok race)
  pub tells : TellsCount frames (raced race) ending_is.eq answer.text.items
  pub ends : answer.status ≡ 0

-- why there is none: the bytes are no script, or there are too many states or nodes, or memory ran out
abbrev pub RefusesCount : Bool → ℕ → List ℕ → LabError → Type 0
RefusesCount frames most bytes why =
    RefusesBytes bytes why
    ⊎ ((searched : ScriptFields) × IsSearchedFor bytes searched × HasNoWords frames searched ports_are.eq most why)

-- what was read of a file is counted, or there is a reason why it isn't
abbrev pub IsCounted : Bool → ℕ → Result FileAnswer LabError → Type 0
IsCounted frames most (Ok answer) = (bytes : List ℕ) × AnswersCount frames bytes answer
IsCounted frames most (Err why) = IsUnread why ⊎ ((bytes : List ℕ) × RefusesCount frames most bytes why)
