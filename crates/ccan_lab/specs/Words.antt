-- What is answered of the words of all outcomes. Source: this project's own.
use Rattle.std.specs.Prelude.{ℕ, ◌≡◌, ◌<◌, ◌⊎◌, Bool, true, false, not, List, Some, None, length, min, string_bytes}
use Rattle.std.specs.List.{IsDistinct}
use Rattle.ccan_line.specs.Script.{ScriptFields}
use Rattle.ccan_outcomes.specs.declared.all_ports.AllPorts.{AllPorts}
use Rattle.ccan_outcomes.specs.declared.ending.Ending.{Ending}
use Rattle.ccan_outcomes.specs.declared.line_ends.LineEnds.{LineEnds}
use Rattle.ccan_outcomes.specs.AnswerGraph.{HasLargeGraph}
use Rattle.ccan_outcomes.specs.Ending.{AreAllEnds, AreOfRuns, AreOutcomes}
use Rattle.ccan_outcomes.specs.LineEnds.{AreSaidOfLines, SayAllEnds, SayWholeOutcomes}
use Rattle.ccan_outcomes.specs.OutcomeWords.{endings_in}
use Rattle.ccan_outcomes.specs.WordStates.{TellsManyWords}
use Rattle.ccan_lab.specs.declared.history_form.HistoryForm.{HistoryForm}
use Rattle.ccan_lab.specs.declared.lab_error.LabError.{LabError}
use Rattle.ccan_lab.specs.declared.lab_error.LabError.TheVariants as fault
use Rattle.ccan_lab.specs.declared.line_search.LineSearch.{LineSearch}
use Rattle.ccan_lab.specs.declared.line_search.LineSearch.TheVariants.{Found, NotFound, Refused}
use Rattle.ccan_lab.specs.declared.outcome_words.Gathered.{Gathered}
use Rattle.ccan_lab.specs.declared.outcome_words.Gathered.TheVariants.{Together, Apart}
use Rattle.ccan_lab.specs.declared.outcome_words.OutcomeList.{OutcomeList}
use Rattle.ccan_lab.specs.Answer.{are_refused, first_with, none_text}
use Rattle.ccan_lab.specs.Apart.{IsNotCertain, RefusesApart, TellsApart}
use Rattle.ccan_lab.specs.Counting.{greatest}
use Rattle.ccan_lab.specs.Listing.{IsFoundText}
use Rattle.ccan_lab.specs.Telling.{CanBeTold, frames_in}

-- why there are no words: so many states can be reached, or so many steps made one after the other, or the words need so many
-- nodes, or memory ran out
abbrev pub HasNoWords : Bool → ScriptFields → (AllPorts → AllPorts → Bool) → ℕ → LabError → Type 0
HasNoWords frames script eq most (fault.More told) = (told ≡ most) × HasLargeGraph script eq most
HasNoWords frames script eq most (fault.Nodes told) = (told ≡ most) × TellsManyWords frames script most
HasNoWords frames script eq most fault.Memory = Unit {0}
HasNoWords frames script eq most _ = ⊥

-- these are all outcomes that the promise allows, as they are printed, each once, and no other; each is that of a run, and has an
-- end for each line; and a history of each is found along the graph
pub record AreAllOutcomes (frames : Bool) (script : ScriptFields) (eq : Ending → Ending → Bool) (list : OutcomeList) : Type 0
  where
    pub can : CanBeTold script list
    pub are : AreOutcomes script (endings_in list.words)
    pub once : IsDistinct eq (endings_in list.words)
    pub asked : frames_in list ≡ frames

-- the words need too many nodes, and these are the ends of the lines of all outcomes
pub record AreAllLineEnds (frames : Bool) (script : ScriptFields) (most : ℕ) (lines : LineEnds) : Type 0 where
  pub why : TellsManyWords frames script most
  pub ends : SayAllEnds frames script lines
  pub whole : SayWholeOutcomes script lines
  pub said : AreSaidOfLines lines

-- what is gathered: the outcomes, or the ends of the lines if the words need too many nodes
abbrev pub IsGathered : Bool → ScriptFields → (Ending → Ending → Bool) → ℕ → Gathered → Type 0
IsGathered frames script eq most (Together list) = AreAllOutcomes frames script eq list
IsGathered frames script eq most (Apart lines) = AreAllLineEnds frames script most lines

-- why nothing is gathered: so many states can be reached, or so many steps made one after the other, or memory ran out
abbrev pub HasNoGraph : ScriptFields → (AllPorts → AllPorts → Bool) → ℕ → LabError → Type 0
HasNoGraph script eq most (fault.More told) = (told ≡ most) × HasLargeGraph script eq most
HasNoGraph script eq most fault.Memory = Unit {0}
HasNoGraph script eq most _ = ⊥

-- none of the outcomes has these lines, and the text says so
pub record SaysNone (endings : List Ending) (begins : List (List ℕ)) (text : List ℕ) : Type 0 where
  pub none : first_with begins endings ≡ None
  pub text_is : text ≡ none_text (min (length endings) greatest) begins

-- what came of a search among the outcomes: the first that has these lines; or that none has, as the text says; or that one of
-- the lines is refused
abbrev pub IsSearched : ScriptFields → List Ending → List (List ℕ) → LineSearch → Type 0
IsSearched script endings begins (Found number) =
    (first_with begins endings ≡ Some number) × (number < greatest) × (are_refused script endings begins ≡ false)
IsSearched script endings begins (NotFound text) =
    SaysNone endings begins (string_bytes text) × (are_refused script endings begins ≡ false)
IsSearched script endings begins Refused = are_refused script endings begins ≡ true

-- the text says that none has the lines, of a list that has each outcome that the promise allows, as it is printed, once, and
-- no other; each is that of a run
pub record TellsNone (frames : Bool) (script : ScriptFields) (eq : Ending → Ending → Bool) (begins : List (List ℕ))
    (text : List ℕ) : Type 0 where
  pub outcomes : List Ending
  pub ends : AreAllEnds frames script outcomes
  pub are : AreOutcomes script outcomes
  pub runs : AreOfRuns script outcomes
  pub once : IsDistinct eq outcomes
  pub says : SaysNone outcomes begins text
  pub taken : are_refused script outcomes begins ≡ false

-- one of the lines is refused by such a list
abbrev pub RefusesLine : Bool → ScriptFields → List (List ℕ) → Type 0
RefusesLine frames script begins =
    (endings : List Ending) × AreAllEnds frames script endings × AreOutcomes script endings
    × (are_refused script endings begins ≡ true)

-- the text shows an outcome that has the lines, of a list that has each outcome that the promise allows, as it is printed,
-- once, and no other; each is that of a run
pub record TellsFound (frames : Bool) (form : HistoryForm) (script : ScriptFields) (eq : Ending → Ending → Bool)
    (begins : List (List ℕ)) (text : List ℕ) : Type 0 where
  pub outcomes : List Ending
  pub ends : AreAllEnds frames script outcomes
  pub are : AreOutcomes script outcomes
  pub runs : AreOfRuns script outcomes
  pub once : IsDistinct eq outcomes
  pub says : IsFoundText frames form script outcomes begins text
  pub taken : are_refused script outcomes begins ≡ false

-- the text answers by the words of all outcomes whether one has all the lines, or, if it is asked so, whether none has
abbrev pub TellsLine : Bool → HistoryForm → ScriptFields → (Ending → Ending → Bool) → List (List ℕ) → Bool → List ℕ → Bool → Type 0
TellsLine frames form script eq begins never text holds =
    (TellsNone frames script eq begins text × (holds ≡ never))
    ⊎ (TellsFound frames form script eq begins text × (holds ≡ not never))

-- it answers so, or, if the outcomes need too many nodes, by what is certain without their words
abbrev pub AnswersLine : Bool → HistoryForm → ScriptFields → (Ending → Ending → Bool) → ℕ → List (List ℕ) → Bool → List ℕ → Bool
    → Type 0
AnswersLine frames form script eq most begins never text holds =
    TellsLine frames form script eq begins never text holds ⊎ TellsApart frames script most begins never text holds

-- why there is no answer: a line is refused; or the words need too many nodes, and it isn't certain without them whether one outcome
-- has all the lines; or there is no graph, or memory ran out
abbrev pub IsUnanswered : Bool → ScriptFields → List (List ℕ) → (AllPorts → AllPorts → Bool) → ℕ → LabError → Type 0
IsUnanswered frames script begins eq most fault.NoLine =
    RefusesLine frames script begins ⊎ RefusesApart frames script most begins
IsUnanswered frames script begins eq most (fault.Nodes told) = (told ≡ most) × IsNotCertain frames script most begins
IsUnanswered frames script begins eq most why = HasNoWords frames script eq most why
