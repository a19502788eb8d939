-- A list of outcomes by the lines that are looked at. Source: this project's own.
use Rattle.std.specs.Prelude.{ℕ, zero, suc, ◌≡◌, ◌+◌, ◌++◌, ◌==◌, ◌||◌, not, Bool, true, false, List, [], map, filter, take, length}
use Rattle.std.specs.Prelude.{slice_get, unwrap_or, codes, decimal, if◌then◌else◌}
use Rattle.std.specs.List.{list_any, range_with_len, slice_split}
use Rattle.std.specs.Str.{bytes_eq}
use Rattle.ccan_object.specs.Profile.{objects_in}
use Rattle.ccan_line.specs.Script.{ScriptFields}
use Rattle.ccan_outcomes.specs.declared.ending.Ending.{Ending}
use Rattle.ccan_lab.specs.declared.history_form.HistoryForm.{HistoryForm}
use Rattle.ccan_lab.specs.OutcomeText.{IsOutcomeText}
use Rattle.ccan_lab.specs.Place.{place_kind, place_name}
use Rattle.ccan_lab.specs.Report.{counted_text, each}
use Rattle.ccan_lab.specs.Rows.{line_at, rows_of}

-- ---- what is looked at

-- the names in a list with commas between them
abbrev pub names_in : List ℕ → List (List ℕ)
names_in list = slice_split (λ byte. byte == 44) list

-- this is one of these names
unfoldable pub is_named : List (List ℕ) → List ℕ → Bool
is_named names name = list_any (λ word. bytes_eq word name) names

-- a place is looked at if its name is among these, or the word for all of its port's lines, or for all objects
abbrev pub is_observed : List (List ℕ) → ℕ → ℕ → ℕ → ℕ → Bool
is_observed names if1 if2 bus place =
    is_named names (place_kind if1 if2 bus place) || is_named names (place_name if1 if2 bus place)

-- how many places the outcomes of a script have
abbrev pub places_of : ScriptFields → ℕ
places_of script = length script.if1 + length script.if2 + length script.bus + objects_in script.profile

-- for each of them, whether it is looked at
abbrev pub marks_of : List (List ℕ) → ScriptFields → List Bool
marks_of names script =
    map (is_observed names (length script.if1) (length script.if2) (length script.bus)) (range_with_len 0 (places_of script))

-- ---- what is shown of an outcome

-- the line in a place, if it is looked at
unfoldable pub observed_line : List Bool → List (List ℕ) → ℕ → List ℕ
observed_line marks rows place = if unwrap_or (slice_get marks place) false then line_at rows place else []

-- the lines that are looked at
abbrev pub observed_lines : List Bool → List (List ℕ) → List ℕ
observed_lines marks rows = each (length rows) (observed_line marks rows)

-- those of each outcome
abbrev pub observed_texts : List Bool → List Ending → List (List ℕ)
observed_texts marks endings = map (λ ending. observed_lines marks (rows_of ending)) endings

-- ---- the list

abbrev pub text_at : List (List ℕ) → ℕ → List ℕ
text_at texts number = unwrap_or (slice_get texts number) []

-- an outcome before that of this number shows the same
unfoldable pub is_repeat : List (List ℕ) → ℕ → Bool
is_repeat texts number = list_any (λ text. bytes_eq text (text_at texts number)) (take number texts)

-- for each of the outcomes before this number, whether one before it shows the same
abbrev pub repeats_in : List (List ℕ) → ℕ → List Bool
repeats_in texts number = map (is_repeat texts) (range_with_len 0 number)

-- how many of the outcomes before this number show what none before them does
unfoldable pub first_count : List (List ℕ) → ℕ → ℕ
first_count texts number = length (filter not (repeats_in texts number))

-- the first line: how many outcomes there are, and how many can be told apart by what they show
abbrev pub observed_heading : ℕ → ℕ → List ℕ
observed_heading outcomes apart =
    counted_text outcomes (codes "outcome") ++ (codes ", " ++ (decimal apart ++ codes " as observed\n"))

-- nothing for an outcome that shows what one before it does, else its text with what is looked at
abbrev pub IsFirstText : (List ℕ → ℕ → List ℕ → Type 0) → Bool → List ℕ → ℕ → List ℕ → Type 0
IsFirstText IsText true lines number text = text ≡ []
IsFirstText IsText false lines number text = IsText lines number text

-- the text is that of the outcomes before this number, in turn
abbrev pub AreFirstTexts : (List ℕ → ℕ → List ℕ → Type 0) → List (List ℕ) → ℕ → List ℕ → Type 0
AreFirstTexts IsText texts zero text = text ≡ []
AreFirstTexts IsText texts (suc number) text =
    (before : List ℕ) × (last : List ℕ) × (text ≡ before ++ last) × AreFirstTexts IsText texts number before
    × IsFirstText IsText (is_repeat texts number) (text_at texts number) number last

-- the first line, and of each kind of outcome that can be told apart the first, with a history, if it is before this number
pub record IsObservedListingTo (frames : Bool) (form : HistoryForm) (names : List (List ℕ)) (script : ScriptFields)
    (endings : List Ending) (count : ℕ) (text : List ℕ) : Type 0 where
  pub outcomes : List ℕ
  pub are : AreFirstTexts (IsOutcomeText frames form script endings) (observed_texts (marks_of names script) endings)
      count outcomes
  pub text_is : text ≡ observed_heading (length endings) (first_count (observed_texts (marks_of names script) endings)
      (length endings)) ++ outcomes

-- ---- names of nothing

-- a port, or all objects
abbrev pub is_kind : List ℕ → Bool
is_kind word =
    bytes_eq word (codes "if1") || (bytes_eq word (codes "if2") || (bytes_eq word (codes "bus") || bytes_eq word (codes "final")))

-- the name of one of so many places
abbrev pub is_place : List ℕ → ℕ → ℕ → ℕ → ℕ → Bool
is_place word if1 if2 bus places = list_any (bytes_eq word) (map (place_name if1 if2 bus) (range_with_len 0 places))

-- the word names lines or objects of the script
abbrev pub is_known : ScriptFields → List ℕ → Bool
is_known script word =
    is_kind word
    || is_place word (length script.if1) (length script.if2) (length script.bus) (places_of script)
