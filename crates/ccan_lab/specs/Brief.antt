-- Histories in few lines. Source: this project's own.
use Rattle.std.specs.Prelude.{ℕ, zero, suc, ◌≡◌, ◌+◌, ◌++◌, ◌==◌, ◌&&◌, ◌||◌, Bool, true, false, List, [], Option, Some, None}
use Rattle.std.specs.Prelude.{codes, decimal, length, slice_get, unwrap_or, if◌then◌else◌}
use Rattle.ccan_accept.specs.declared.frame.Frame.{Frame}
use Rattle.ccan_explain.specs.FrameText.{winner_text}
use Rattle.ccan_explain.specs.RecordWords.{left_text}
use Rattle.ccan_line.specs.Script.{ScriptFields}
use Rattle.ccan_outcomes.specs.declared.all_ports.AllPorts.{AllPorts}
use Rattle.ccan_outcomes.specs.declared.history_kind.HistoryKind.{HistoryKind}
use Rattle.ccan_outcomes.specs.declared.history_kind.HistoryKind.TheVariants as kind
use Rattle.ccan_outcomes.specs.declared.history_step.HistoryStep.{HistoryStep}
use Rattle.ccan_outcomes.specs.History.{LeadThrough}
use Rattle.ccan_outcomes.specs.Step.{record_in}
use Rattle.ccan_ram.specs.contracts.port.PortNamePartialEq.TheImpl.{ghosts as port_is}
use Rattle.ccan_lab.specs.declared.history_form.HistoryForm.{HistoryForm}
use Rattle.ccan_lab.specs.declared.history_form.HistoryForm.TheVariants.{EachStep, Brief}
use Rattle.ccan_lab.specs.History.{kind_text, line_name, object_text}
use Rattle.ccan_lab.specs.Moved.{IsWonAt}
use Rattle.ccan_lab.specs.Report.{each, history_text}

-- ---- which steps are in one line

-- a look that leaves its line under way
abbrev pub is_look : HistoryKind → Bool
is_look kind.Looks = true
is_look other = false

abbrev pub is_change : HistoryKind → Bool
is_change kind.Writes = true
is_change kind.ReadsAndClears = true
is_change kind.Starts = true
is_change kind.Finishes = true
is_change kind.Stores = true
is_change kind.Resets = true
is_change other = false

-- the second is the object after the first
abbrev pub is_next : Option ℕ → Option ℕ → Bool
is_next (Some object) (Some next) = next == object + 1
is_next object next = false

-- both are one object
abbrev pub is_same : Option ℕ → Option ℕ → Bool
is_same (Some object) (Some next) = next == object
is_same object next = false

-- of one line of a script, a look comes before a look at the next object, or before a change of the same one
abbrev pub goes_on : HistoryStep → HistoryStep → Bool
goes_on step next =
    is_look step.kind && (port_is.eq step.port next.port && (step.line == next.line
    && ((is_look next.kind && is_next step.object next.object) || (is_change next.kind && is_same step.object next.object))))

abbrev pub both_go_on : Option HistoryStep → Option HistoryStep → Bool
both_go_on (Some step) (Some next) = goes_on step next
both_go_on step next = false

-- the step of this place, from 0, does so before the next one: both are in one line
unfoldable pub goes_on_at : List HistoryStep → ℕ → Bool
goes_on_at steps place = both_go_on (slice_get steps place) (slice_get steps (place + 1))

-- the place of the first step that is in one line with the step of this place
unfoldable pub first_at : List HistoryStep → ℕ → ℕ
first_at steps zero = zero
first_at steps (suc place) = if goes_on_at steps place then first_at steps place else suc place

-- ---- what is written of them

-- `7`, or `7-9`: the numbers of the steps, from 1
abbrev pub numbers_text : ℕ → ℕ → List ℕ
numbers_text first last =
    if first == last then decimal (last + 1) else decimal (first + 1) ++ (codes "-" ++ decimal (last + 1))

-- ` 01`, or ` 01 to 32`: the objects of looks
abbrev pub looked_at : Option ℕ → Option ℕ → List ℕ
looked_at first last = if is_same first last then object_text last else object_text first ++ (codes " to" ++ object_text last)

-- a change has one object
abbrev pub objects_text : HistoryStep → HistoryStep → List ℕ
objects_text begin step =
    if is_look step.kind then looked_at begin.object step.object else object_text step.object

-- `  1-32 bus[0] `: the numbers of the steps, the port and its line
abbrev pub label_text : ℕ → ℕ → HistoryStep → List ℕ
label_text first place step =
    codes "  " ++ (numbers_text first place ++ (codes " " ++ (line_name step.port step.line ++ codes " ")))

-- `look 01 to 32`: what the last one did, and the objects
abbrev pub deed_text : HistoryStep → HistoryStep → List ℕ
deed_text begin step = kind_text step.kind ++ objects_text begin step

-- both, and more of it
abbrev pub group_line : HistoryStep → ℕ → ℕ → HistoryStep → List ℕ → List ℕ
group_line begin first place step more = label_text first place step ++ (deed_text begin step ++ (more ++ codes "\n"))

abbrev pub group_between : Option HistoryStep → Option HistoryStep → ℕ → ℕ → List ℕ → List ℕ
group_between (Some begin) (Some step) first place more = group_line begin first place step more
group_between begin step first place more = []

-- the line of the steps that end with that of this place, with what is written of it; nothing if the next one is there too
unfoldable pub group_text : List HistoryStep → List (List ℕ) → ℕ → List ℕ
group_text steps details place =
    if goes_on_at steps place then []
    else group_between (slice_get steps (first_at steps place)) (slice_get steps place) (first_at steps place) place
    (unwrap_or (slice_get details place) [])

-- all lines
abbrev pub brief_text : List HistoryStep → List (List ℕ) → List ℕ
brief_text steps details = each (length steps) (group_text steps details)

-- ---- what is written of a step besides this

-- `: can0 123#11 from node 1`
abbrev pub winner_shown : Option (ℕ × Frame) → List ℕ
winner_shown None = []
winner_shown (Some (node, frame)) = codes ": " ++ winner_text node frame

-- the frame that is on the bus as a round is decided
abbrev pub IsWinnerText : ScriptFields → ℕ → AllPorts → List ℕ → Type 0
IsWinnerText script line from text =
    (winner : Option (ℕ × Frame)) × IsWonAt script line from winner × (text ≡ winner_shown winner)

-- what a change made of its object
abbrev pub changed_text : Option ℕ → AllPorts → AllPorts → List ℕ
changed_text None from to = []
changed_text (Some object) from to = left_text (record_in from.records object) (record_in to.records object)

abbrev pub IsDetailOf : ScriptFields → HistoryStep → HistoryKind → AllPorts → AllPorts → List ℕ → Type 0
IsDetailOf script step kind.Decides from to text = IsWinnerText script step.line from text
IsDetailOf script step did from to text = text ≡ (if is_change did then changed_text step.object from to else [])

-- these are such texts of all steps, each between the states before and after it
pub record AreDetails (script : ScriptFields) (steps : List HistoryStep) (states : List AllPorts) (details : List (List ℕ))
    : Type 0 where
  pub as_many : length details ≡ length steps
  pub are : (place : ℕ) (step : HistoryStep) (text : List ℕ) → slice_get steps place ≡ Some step
      → slice_get details place ≡ Some text → (from to : AllPorts) → slice_get states place ≡ Some from
      → slice_get states (place + 1) ≡ Some to → IsDetailOf script step step.kind from to text

-- ---- a history in a form

-- the text is that of the steps, and what it says of changes and frames is that of these states
pub record IsBriefText (script : ScriptFields) (steps : List HistoryStep) (states : List AllPorts) (text : List ℕ) : Type 0 where
  pub details : List (List ℕ)
  pub are : AreDetails script steps states details
  pub text_is : text ≡ brief_text steps details

-- the text is that of the steps with these states, in this form
abbrev pub IsTextOf : HistoryForm → ScriptFields → List HistoryStep → List AllPorts → List ℕ → Type 0
IsTextOf EachStep script steps states text = text ≡ history_text steps
IsTextOf Brief script steps states text = IsBriefText script steps states text

-- the text is that of the steps in this form, with the states on their way
abbrev pub IsHistoryText : HistoryForm → ScriptFields → List HistoryStep → List ℕ → Type 0
IsHistoryText form script steps text =
    (states : List AllPorts) × LeadThrough script steps states × IsTextOf form script steps states text
