-- The short list of outcomes: what each line may be. Source: this project's own.
use Rattle.std.specs.Prelude.{ℕ, ◌≡◌, ◌++◌, ◌∷◌, nat_lt, Bool, List, [], Some, codes, decimal, length, min, slice_get, unwrap_or}
use Rattle.std.specs.Prelude.{if◌then◌else◌}
use Rattle.std.specs.Cmp.Lexicographic.{slice_cmp}
use Rattle.std.specs.List.{Contains, IsDistinct, flat_map}
use Rattle.std.specs.List.Sorted.{IsStrictlySortedBy}
use Rattle.std.specs.Ordering.{nat_cmp}
use Rattle.ccan_line.specs.Script.{ScriptFields}
use Rattle.ccan_outcomes.specs.declared.ending.Ending.{Ending}
use Rattle.ccan_outcomes.specs.Ending.{AreAllEnds, AreOfRuns, AreOutcomes, IsOfEnd}
use Rattle.ccan_outcomes.specs.WordStates.{TellsManyWords}
use Rattle.ccan_lab.specs.Counting.{count_text, greatest}
use Rattle.ccan_lab.specs.Observed.{places_of}
use Rattle.ccan_lab.specs.Place.{place_name}
use Rattle.ccan_lab.specs.Report.{each, labelled}
use Rattle.ccan_lab.specs.Rows.{line_at, rows_of}

-- ---- what may be in a place

-- these are the lines that the outcomes have in a place, and no others
pub record AreLinesAt (IsOutcome : Ending → Type 0) (place : ℕ) (lines : List (List ℕ)) : Type 0 where
  pub right : (line : List ℕ) → Contains lines line
      → (ending : Ending) × IsOutcome ending × (line_at (rows_of ending) place ≡ line)
  pub complete : (ending : Ending) → IsOutcome ending → Contains lines (line_at (rows_of ending) place)

-- these are the same lines as those, each once, in the order of their bytes
pub record AreInOrder (all lines : List (List ℕ)) : Type 0 where
  pub right : (line : List ℕ) → Contains lines line → Contains all line
  pub complete : (line : List ℕ) → Contains all line → Contains lines line
  pub ordered : IsStrictlySortedBy (slice_cmp nat_cmp) lines

-- the lines that the outcomes have in a place, each once, in the order of their bytes
pub record AreChoices (IsOutcome : Ending → Type 0) (place : ℕ) (lines : List (List ℕ)) : Type 0 where
  pub are : AreLinesAt IsOutcome place lines
  pub ordered : IsStrictlySortedBy (slice_cmp nat_cmp) lines

-- ---- what is printed of a place

-- the one line that may be there, if it is one alone
unfoldable pub same_part : List (List ℕ) → List ℕ
same_part [] = []
same_part (line ∷ []) = labelled (codes "same in all: ") line
same_part (line ∷ other ∷ more) = []

-- a line of several that may be there; the empty line is that of an object that is all zero
unfoldable pub choice_text : List ℕ → List ℕ
choice_text [] = codes "  may be: all zero\n"
choice_text (byte ∷ rest) = codes "  may be: " ++ byte ∷ rest

-- each of them, below the place's name, if they are several
unfoldable pub choice_part : List ℕ → List (List ℕ) → List ℕ
choice_part name [] = []
choice_part name (line ∷ []) = []
choice_part name (line ∷ other ∷ more) = name ++ (codes "\n" ++ flat_map choice_text (line ∷ other ∷ more))

-- ---- the whole short list

-- what the last line says, if there is more than one outcome
abbrev pub closing_text : ℕ → List ℕ
closing_text outcomes = if nat_lt 1 outcomes then codes "each outcome, with a history: --all\n" else []

-- the choices of a place, by those of all places
abbrev pub choices_at : List (List (List ℕ)) → ℕ → List (List ℕ)
choices_at all place = unwrap_or (slice_get all place) []

-- what is the same in all, place by place
abbrev pub same_parts : List (List (List ℕ)) → List ℕ
same_parts all = flat_map same_part all

-- what may be in each other place, each below its name
abbrev pub choice_parts : List (List (List ℕ)) → (ℕ → List ℕ) → List ℕ
choice_parts all name = each (length all) (λ place. choice_part (name place) (choices_at all place))

-- the name of a place, by the lines of the script
abbrev pub name_in : ScriptFields → ℕ → List ℕ
name_in script = place_name (length script.if1) (length script.if2) (length script.bus)

-- for each place of the script these are the lines that the outcomes have there
pub record HasChoices (script : ScriptFields) (IsOutcome : Ending → Type 0) (choices : List (List (List ℕ))) : Type 0 where
  pub as_many : length choices ≡ places_of script
  pub are : (place : ℕ) (lines : List (List ℕ)) → slice_get choices place ≡ Some lines → AreChoices IsOutcome place lines

-- behind what was there comes what is the same in all outcomes, and what may be in each other place
pub record AddsChoices (script : ScriptFields) (IsOutcome : Ending → Type 0) (old new : List ℕ) : Type 0 where
  pub choices : List (List (List ℕ))
  pub has_choices : HasChoices script IsOutcome choices
  pub new_is : new ≡ old ++ (same_parts choices ++ choice_parts choices (name_in script))

-- the number of outcomes, what is the same in all, what may be in each other place, and the last line
pub record IsSummary (script : ScriptFields) (endings : List Ending) (text : List ℕ) : Type 0 where
  pub choices : List (List (List ℕ))
  pub has_choices : HasChoices script (Contains endings) choices
  pub text_is : text ≡ count_text (min (length endings) greatest) ++ (same_parts choices
      ++ (choice_parts choices (name_in script) ++ closing_text (min (length endings) greatest)))

-- the text is the short list of a list that has each outcome that the promise allows, as it is printed, once, and no other;
-- each is that of a run
pub record TellsSummary (frames : Bool) (script : ScriptFields) (eq : Ending → Ending → Bool) (text : List ℕ) : Type 0 where
  pub outcomes : List Ending
  pub ends : AreAllEnds frames script outcomes
  pub are : AreOutcomes script outcomes
  pub runs : AreOfRuns script outcomes
  pub once : IsDistinct eq outcomes
  pub text_is : IsSummary script outcomes text

-- ---- the short list without the number

-- the first line then: the outcomes need more nodes than so many
abbrev pub unknown_text : ℕ → List ℕ
unknown_text most =
    codes "more than " ++ (decimal most ++ codes " nodes: the number of outcomes isn't known; --most allows more\n")

-- the text is the short list without the number, as the outcomes need too many nodes: what is the same in all ends that the ports
-- can come to, as they are reported, and what may be in each other place
pub record TellsWithoutNumber (frames : Bool) (script : ScriptFields) (most : ℕ) (text : List ℕ) : Type 0 where
  pub why : TellsManyWords frames script most
  pub choices : List (List (List ℕ))
  pub has_choices : HasChoices script (IsOfEnd frames script) choices
  pub text_is : text ≡ unknown_text most ++ (same_parts choices ++ choice_parts choices (name_in script))
