-- What a page shows of the outcomes of a script. Source: this project's own.
use Rattle.std.specs.Prelude.{ℕ, Bool, zero, suc, ◌≡◌, ◌+◌, ◌-◌, ◌++◌, ◌∷◌, List, [], Option, None, Some}
use Rattle.std.specs.Prelude.{codes, if◌then◌else◌, length, map, min, slice_get, string_bytes}
use Rattle.std.specs.List.{Contains, IsDistinct}
use Rattle.std.specs.Str.{bytes_eq}
use Rattle.ccan_ram.specs.declared.port.PortName.{PortName}
use Rattle.ccan_line.specs.Script.{ScriptFields}
use Rattle.ccan_explain.specs.declared.step.Step as told
use Rattle.ccan_machine.specs.WaitLaws.{looking_once}
use Rattle.ccan_outcomes.specs.declared.ending.Ending.{Ending}
use Rattle.ccan_outcomes.specs.declared.history_step.HistoryStep.{HistoryStep}
use Rattle.ccan_outcomes.specs.Ending.{AreAllEnds, AreOfRuns, AreOutcomes}
use Rattle.ccan_outcomes.specs.History.{IsHistoryOf}
use Rattle.ccan_outcomes.specs.Waits.{HaveSameEnds, HaveSameOutcomes}
use Rattle.ccan_page.specs.Data.{data_text}
use Rattle.ccan_page.specs.declared.page.Outcome.{Outcome}
use Rattle.ccan_page.specs.declared.page.Page.{Page}
use Rattle.ccan_page.specs.declared.page.Step as shown
use Rattle.ccan_lab.specs.declared.paging.PageKind.{PageKind}
use Rattle.ccan_lab.specs.declared.paging.PageKind.TheVariants.{ByOrder, Run, Outcomes}
use Rattle.ccan_lab.specs.Counting.{greatest}
use Rattle.ccan_lab.specs.Listing.{different_lines}
use Rattle.ccan_lab.specs.Rows.{rows_at, rows_of}
use Rattle.ccan_lab.specs.Summary.{HasChoices, same_parts}

-- the name that a page has for the script's file: none for standard input
abbrev pub page_name : Option (List ℕ) → List ℕ
page_name None = []
page_name (Some path) = if bytes_eq path (codes "-") then [] else path

-- a page shows a script's run with --run, its outcomes with --outcomes, and without either what its order asks for
abbrev pub IsKindBy : Option (List ℕ) → Option (List ℕ) → PageKind → Type 0
IsKindBy run outcomes kind =
    (run ≡ Some (codes "true") → kind ≡ Run)
    × (run ≡ Some (codes "false") → outcomes ≡ Some (codes "true") → kind ≡ Outcomes)
    × (run ≡ Some (codes "false") → outcomes ≡ Some (codes "false") → kind ≡ ByOrder)

-- the port and the line of a step that is shown, from 0
abbrev pub line_of : shown.Step → PortName × ℕ
line_of step = (step.port, step.line)

-- the same of a step that a run is reported by
abbrev pub line_told : told.Step → PortName × ℕ
line_told step = (step.port, step.line)

-- the same of a step of a history, which counts lines from 1
abbrev pub line_stepped : HistoryStep → PortName × ℕ
line_stepped step = (step.port, step.line - 1)

-- the outcome has the number of the ending in this place, which is counted from 0, the lines of it that are not the same in
-- all, and a step for each step of a history of it, reported with frames or without
pub record IsShown (frames : Bool) (script : ScriptFields) (endings : List Ending) (choices : List (List (List ℕ)))
    (place : ℕ) (outcome : Outcome) : Type 0 where
  pub number_is : outcome.number ≡ place + 1
  pub lines_are : string_bytes outcome.lines ≡ different_lines choices (rows_at (map rows_of endings) place)
  pub steps : List HistoryStep
  pub lead_to_it : (ending : Ending) → slice_get endings place ≡ Some ending → IsHistoryOf frames script ending steps
  pub are_shown : map line_of outcome.history.items ≡ map line_stepped steps

-- the outcomes are the endings before this place, in turn
abbrev pub AreShown : Bool → ScriptFields → List Ending → List (List (List ℕ)) → ℕ → List Outcome → Type 0
AreShown frames script endings choices zero outcomes = outcomes ≡ []
AreShown frames script endings choices (suc place) outcomes =
    (before : List Outcome) × (last : Outcome) × (outcomes ≡ before ++ (last ∷ []))
    × AreShown frames script endings choices place before × IsShown frames script endings choices place last

-- the page says how many outcomes there are, and what is the same in all, and has the first of them, at most so many
pub record ShowsEndings (frames : Bool) (script : ScriptFields) (endings : List Ending) (limit : ℕ) (page : Page) : Type 0 where
  pub count_is : page.count ≡ min (length endings) greatest
  pub choices : List (List (List ℕ))
  pub has_choices : HasChoices script (Contains endings) choices
  pub same_is : string_bytes page.same ≡ same_parts choices
  pub are_shown : AreShown frames script endings choices (min limit (length endings)) page.outcomes.items

-- it does so of a list that has each outcome that the promise allows, as it is printed, once, and no other; each is that of a
-- run
pub record ShowsList (frames : Bool) (script : ScriptFields) (eq : Ending → Ending → Bool) (limit : ℕ) (page : Page) : Type 0 where
  pub endings : List Ending
  pub ends : AreAllEnds frames script endings
  pub complete : AreOutcomes script endings
  pub runs : AreOfRuns script endings
  pub once : IsDistinct eq endings
  pub shows : ShowsEndings frames script endings limit page

-- it does so of such a list of the script whose waits look once, which has the same outcomes
pub record ShowsOutcomes (frames : Bool) (script : ScriptFields) (eq : Ending → Ending → Bool) (limit : ℕ) (page : Page)
    : Type 0 where
  pub searched : ScriptFields
  pub once : searched ≡ looking_once script
  pub same_outcomes : HaveSameOutcomes script searched
  pub same_ends : HaveSameEnds script searched
  pub shows : ShowsList frames searched eq limit page

-- the text is the data of a page that shows all outcomes, with the name of the script's file, and a line feed
pub record TellsJson (frames : Bool) (name : List ℕ) (script : ScriptFields) (eq : Ending → Ending → Bool) (text : List ℕ)
    : Type 0 where
  pub page : Page
  pub file_is : page.file.now ≡ name
  pub shows : ShowsList frames script eq greatest page
  pub text_is : text ≡ data_text page ++ codes "\n"
