-- A list of what can be told apart of the outcomes by the lines that are looked at. Source: this project's own.
use Rattle.std.specs.Prelude.{ℕ, ◌≡◌, ◌++◌, ◌⊎◌, Bool, List, Some, Contains, length, codes, slice_get}
use Rattle.std.specs.Global.{Vec}
use Rattle.std.specs.List.{IsDistinct}
use Rattle.ccan_language.specs.declared.letter.Letter.{Letter}
use Rattle.ccan_language.specs.Images.{word_image}
use Rattle.ccan_language.specs.Words.{IsWordFrom}
use Rattle.ccan_line.specs.Script.{ScriptFields}
use Rattle.ccan_ram.specs.declared.port.PortName.{PortName}
use Rattle.ccan_outcomes.specs.declared.all_ports.AllPorts.{AllPorts}
use Rattle.ccan_outcomes.specs.declared.ending.Ending.{Ending}
use Rattle.ccan_outcomes.specs.declared.observed.Observed.{Observed}
use Rattle.ccan_outcomes.specs.declared.words.OutcomeWords.{OutcomeWords}
use Rattle.ccan_outcomes.specs.Ending.{AreAllEnds, AreOfRuns, AreOutcomes}
use Rattle.ccan_outcomes.specs.History.{IsHistoryOf}
use Rattle.ccan_outcomes.specs.Observed.{HasManyImages, observed_words}
use Rattle.ccan_outcomes.specs.OutcomeWords.{ending_of_word, endings_in}
use Rattle.ccan_lab.specs.declared.history_form.HistoryForm.{HistoryForm}
use Rattle.ccan_lab.specs.declared.lab_error.LabError.{LabError}
use Rattle.ccan_lab.specs.declared.lab_error.LabError.TheVariants as fault
use Rattle.ccan_lab.specs.Brief.{IsHistoryText}
use Rattle.ccan_lab.specs.Observed.{AreFirstTexts, first_count, marks_of, observed_lines, observed_texts}
use Rattle.ccan_lab.specs.Replay.{Replays}
use Rattle.ccan_lab.specs.Report.{IsTextWith, counted_text}
use Rattle.ccan_lab.specs.Rows.{rows_of}
use Rattle.ccan_lab.specs.Words.{HasNoWords}

-- ---- outcomes that stand for all

-- the outcome is one whose word has the image of this number
abbrev pub IsShownAt : OutcomeWords → Observed → ℕ → Ending → Type 0
IsShownAt words observed number ending =
    (word : List Letter) × IsWordFrom words.graph.nodes.keys words.start word
    × (slice_get (observed_words words observed) number ≡ Some (word_image observed.images word))
    × (ending ≡ ending_of_word words word) × Contains (endings_in words) ending

-- these are outcomes of the images, in turn
pub record AreShown (words : OutcomeWords) (observed : Observed) (shown : List Ending) : Type 0 where
  pub as_many : length shown ≡ length (observed_words words observed)
  pub are : (number : ℕ) (ending : Ending) → slice_get shown number ≡ Some ending → IsShownAt words observed number ending

-- each of these words is one of all, and its outcome stands in the same place
abbrev pub AreSaid : OutcomeWords → List (Vec Letter) → List Ending → Type 0
AreSaid words said endings =
    (place : ℕ) (word : Vec Letter) → slice_get said place ≡ Some word
    → IsWordFrom words.graph.nodes.keys words.start word.items × (slice_get endings place ≡ Some (ending_of_word words word.items))

-- each of these is an outcome, and in the places where these marks are set each outcome shows the same as one of them
pub record AreShownOf (marks : List Bool) (endings shown : List Ending) : Type 0 where
  pub right : (ending : Ending) → Contains shown ending → Contains endings ending
  pub complete : (ending : Ending) → Contains endings ending → (other : Ending) × Contains shown other
      × (observed_lines marks (rows_of ending) ≡ observed_lines marks (rows_of other))

-- ---- the list

-- the first line: how many outcomes can be told apart
abbrev pub seen_heading : ℕ → List ℕ
seen_heading apart = counted_text apart (codes "outcome") ++ codes " as observed\n"

-- the script with this order is one, and in the places where these marks are set its run shows these lines
pub record ReplaysShown (frames : Bool) (script : ScriptFields) (marks : List Bool) (lines : List ℕ) (order : List PortName)
    : Type 0 where
  pub whole : Ending
  pub lines_are : observed_lines marks (rows_of whole) ≡ lines
  pub replays : Replays frames script whole order

-- the text is that of the outcome in this place, with a history of it; its number counts those that show what none before them does
abbrev pub IsSeenText : Bool → HistoryForm → ScriptFields → List Bool → List Ending → List (List ℕ) → List ℕ → ℕ → List ℕ
    → Type 0
IsSeenText frames form script marks shown texts lines place text =
    IsTextWith (IsHistoryOf frames script) (IsHistoryText form script) (λ _. ReplaysShown frames script marks lines) shown place
    lines (first_count texts place) text

-- the first line, and of the outcomes that show the same the first, with a history
pub record IsSeenListing (frames : Bool) (form : HistoryForm) (script : ScriptFields) (marks : List Bool) (shown : List Ending)
    (text : List ℕ) : Type 0 where
  pub outcomes : List ℕ
  pub are : AreFirstTexts (IsSeenText frames form script marks shown (observed_texts marks shown)) (observed_texts marks shown)
      (length shown) outcomes
  pub text_is : text ≡ seen_heading (first_count (observed_texts marks shown) (length shown)) ++ outcomes

-- the text lists what can be told apart of these outcomes
abbrev pub ListsSeen : Bool → HistoryForm → ScriptFields → List Bool → List Ending → List ℕ → Type 0
ListsSeen frames form script marks endings text =
    (shown : List Ending) × AreShownOf marks endings shown × IsSeenListing frames form script marks shown text

-- the text lists what can be told apart, if the places of these names are looked at, of a list that has each outcome that the
-- promise allows, as it is printed, once, and no other; each is that of a run
pub record TellsSeen (frames : Bool) (form : HistoryForm) (names : List (List ℕ)) (script : ScriptFields)
    (eq : Ending → Ending → Bool) (text : List ℕ) : Type 0 where
  pub outcomes : List Ending
  pub ends : AreAllEnds frames script outcomes
  pub are : AreOutcomes script outcomes
  pub runs : AreOfRuns script outcomes
  pub once : IsDistinct eq outcomes
  pub lists : ListsSeen frames form script (marks_of names script) outcomes text

-- ---- why there is none

-- images of the words that show what is looked at by these marks need so many nodes, or memory ran out
abbrev pub HasNoImages : OutcomeWords → List Bool → ℕ → LabError → Type 0
HasNoImages words marks most (fault.Nodes told) = (told ≡ most) × HasManyImages words marks most
HasNoImages words marks most fault.Memory = Unit {0}
HasNoImages words marks most _ = ⊥

-- the same of the words of all outcomes of the script, or there is no list of them
abbrev pub HasNoSeenList : Bool → List (List ℕ) → ScriptFields → (AllPorts → AllPorts → Bool) → ℕ → LabError → Type 0
HasNoSeenList frames names script eq most why =
    HasNoWords frames script eq most why
    ⊎ ((words : OutcomeWords) × AreAllEnds frames script (endings_in words) × AreOutcomes script (endings_in words)
    × HasNoImages words (marks_of names script) most why)
