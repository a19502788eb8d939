-- What the words of the command line ask, by what `clap` found of them. Source: this project's own.
use Rattle.std.specs.Prelude.{ℕ, ◌≡◌, ◌<◌, ◌^◌, ◌==◌, ◌||◌, Bool, true, false, List, [], ◌∷◌, Option, Some, None, codes, decimal, map, not, position}
use Rattle.std.specs.Borrow.{Bor}
use Rattle.std.specs.List.{list_any}
use Rattle.ccan_line.specs.Script.{ScriptFields}
use Rattle.ccan_lab.specs.Forms.{is_between}
use Rattle.ccan_lab.specs.Observed.{is_known, names_in}
use Rattle.ccan_lab.specs.declared.history_form.HistoryForm.{HistoryForm}
use Rattle.ccan_lab.specs.declared.history_form.HistoryForm.TheVariants.{EachStep, Brief}
use Rattle.ccan_lab.specs.declared.asked.Asked.{Asked}
use Rattle.ccan_lab.specs.declared.asked.Asked.TheVariants.{Summary, All, Json, Can, Never, Observed, AllObserved}

-- it is asked what of the outcomes can be told apart in these places
abbrev pub IsObserving : List ℕ → Asked → Type 0
IsObserving list (Observed names) = names.now ≡ list
IsObserving list Summary = ⊥
IsObserving list All = ⊥
IsObserving list Json = ⊥
IsObserving list Can = ⊥
IsObserving list Never = ⊥
IsObserving list (AllObserved names) = ⊥

-- the same is asked of the list of all outcomes
abbrev pub IsObservingAll : List ℕ → Asked → Type 0
IsObservingAll list (AllObserved names) = names.now ≡ list
IsObservingAll list Summary = ⊥
IsObservingAll list All = ⊥
IsObservingAll list Json = ⊥
IsObservingAll list Can = ⊥
IsObservingAll list Never = ⊥
IsObservingAll list (Observed names) = ⊥

-- a number is the one that is given, however large; that it is a number is checked before
abbrev pub IsGivenBy : Option (List ℕ) → ℕ → Type 0
IsGivenBy word number = (n : ℕ) → n < 2 ^ 64 → word ≡ Some (decimal n) → number ≡ n

-- the same of a number that may be left out
abbrev pub IsChosenBy : Option (List ℕ) → Option ℕ → Type 0
IsChosenBy word number =
    (word ≡ None → number ≡ None) × ((n : ℕ) → n < 2 ^ 64 → word ≡ Some (decimal n) → number ≡ Some n)

-- a LINE asks for a frame if it begins with `c`, or if it has a `#` or a letter in upper case: no other printed line does
unfoldable pub is_of_frame : ℕ → Bool
is_of_frame byte = byte == 35 || is_between 65 90 byte

unfoldable pub begins_with_c : List ℕ → Bool
begins_with_c [] = false
begins_with_c (byte ∷ rest) = byte == 99

unfoldable pub asks_frame : List ℕ → Bool
asks_frame line = begins_with_c line || list_any is_of_frame line

-- frames are reported if the flag is there, or if a LINE asks for one
abbrev pub AsksFramesBy : Option (List ℕ) → List (Bor (List ℕ)) → Bool → Type 0
AsksFramesBy word lines frames =
    (word ≡ Some (codes "true") → frames ≡ true)
    × (word ≡ Some (codes "false") → frames ≡ list_any (λ line. asks_frame line.now) lines)

-- histories are written in few lines if the flag is there, and else step by step
abbrev pub IsFormBy : Option (List ℕ) → HistoryForm → Type 0
IsFormBy word form = (word ≡ Some (codes "true") → form ≡ Brief) × (word ≡ Some (codes "false") → form ≡ EachStep)

-- the files that are asked about: those that are named, and standard input if none is
abbrev pub files_named : Option (List (List ℕ)) → List (List ℕ)
files_named (Some names) = names
files_named None = codes "-" ∷ []

-- each name in a list is that of lines or objects of the script
abbrev pub AreKnownNames : ScriptFields → List ℕ → Type 0
AreKnownNames script list = position not (map (is_known script) (names_in list)) ≡ None

-- so is each name of what is to be looked at
abbrev pub AreKnown : ScriptFields → Asked → Type 0
AreKnown script (Observed names) = AreKnownNames script names.now
AreKnown script (AllObserved names) = AreKnownNames script names.now
AreKnown script Summary = Unit {0}
AreKnown script All = Unit {0}
AreKnown script Json = Unit {0}
AreKnown script Can = Unit {0}
AreKnown script Never = Unit {0}

-- what is asked with --all, by the names of --observe
abbrev pub AsksAllBy : Option (List ℕ) → Asked → Type 0
AsksAllBy (Some names) asked = IsObservingAll names asked
AsksAllBy None asked = asked ≡ All

-- what is asked without --all and --json, by the lines of --can, those of --never, and the names of --observe
abbrev pub AsksBy : Option (List (List ℕ)) → Option (List (List ℕ)) → Option (List ℕ) → Asked → Type 0
AsksBy (Some lines) never observe asked = asked ≡ Can
AsksBy None (Some lines) observe asked = asked ≡ Never
AsksBy None None (Some names) asked = IsObserving names asked
AsksBy None None None asked = asked ≡ Summary

-- the lines that are asked about: all that --can gives, or else all that --never gives
abbrev pub lines_given : Option (List (List ℕ)) → Option (List (List ℕ)) → List (List ℕ)
lines_given (Some lines) never = lines
lines_given None (Some lines) = lines
lines_given None None = []
