-- What is reported if a script's run does not print what is expected. Source: this project's own.
use Rattle.std.specs.Prelude.{ℕ, ◌≡◌, ◌≢◌, ◌<◌, ◌≤◌, List, [], Option, None, Some, length, slice_index, take}
use Rattle.ccan_line.specs.Script.{ScriptFields}
use Rattle.ccan_run.specs.Ordered.{HasText}
use Rattle.ccan_script.specs.RemarkText.{told_text}

-- so many bytes are the same in both texts. If both have one more, it is not the same; if one ends, the other goes on
pub record IsFirstDifference (expected printed : List ℕ) (offset : ℕ) : Type 0 where
  pub within : offset ≤ length expected
  pub within_printed : offset ≤ length printed
  pub same : take offset expected ≡ take offset printed
  pub apart : offset < length expected → offset < length printed
      → slice_index expected offset ≢ slice_index printed offset
  pub longer : length expected ≡ offset → offset < length printed

-- the line and column of the first difference, in the expected text, with words for it
pub record TellsDifference (file expected printed told : List ℕ) : Type 0 where
  pub offset : ℕ
  pub first : IsFirstDifference expected printed offset
  pub words : List ℕ
  pub told_is : told ≡ told_text file expected offset [] words

-- nothing is reported exactly if both texts are the same
abbrev pub TellsOf : List ℕ → List ℕ → List ℕ → Option (List ℕ) → Type 0
TellsOf file expected printed None = printed ≡ expected
TellsOf file expected printed (Some told) = TellsDifference file expected printed told

-- the script's run prints a text, which is compared with what is expected
pub record ComparesRun (script : ScriptFields) (file expected : List ℕ) (told : Option (List ℕ)) : Type 0 where
  pub printed : List ℕ
  pub has_text : HasText script printed
  pub tells : TellsOf file expected printed told
