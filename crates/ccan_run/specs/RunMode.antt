-- The program's command line, by what `clap` makes of it. Source: this project's own.
use Rattle.std.specs.Prelude.{◌≡◌, ◌≢◌, ℕ, List, [], ◌∷◌, map, Option, Some, None, codes, if◌then◌else◌}
use Rattle.std.specs.Borrow.{Bor}
use Rattle.std.specs.Str.{bytes_eq}
use Rattle.clap.specs.Words.{App, Rule, Text, app_of, fault_of, first_of, matches_of, new_app, new_rule, with_rule}
use Rattle.clap.specs.declared.builder.ArgAction.TheVariants.{Set}
use Rattle.clap.specs.declared.builder.ValueParser.TheVariants as vp
use Rattle.clap.specs.declared.builder.Command.{Command}
use Rattle.ccan_run.specs.declared.run_mode.RunMode.{RunMode}
use Rattle.ccan_run.specs.declared.run_mode.RunMode.TheVariants.{Run, Threads}

-- a list of texts, where it lies in memory
abbrev pub Names : Type 0
Names = Bor (List (Bor (List ℕ)))

-- the names are those of the modes
abbrev pub AreModes : Names → Type 0
AreModes names = map (λ n. n.now) names.now ≡ codes "run" ∷ codes "threads" ∷ []

-- one optional word, which has to be one of the names
abbrev pub mode_rule : Names → Rule
mode_rule names = record (new_rule (codes "mode")) { action = Some Set; parser = Some (vp.Names names) }

unfoldable pub ccan : Names → App
ccan names = with_rule (new_app (codes "ccan")) (mode_rule names)

-- the command takes one optional word, the name of a mode
abbrev pub IsCommand : Command → Type 0
IsCommand c = (names : Names) × AreModes names × (app_of c ≡ ccan names)

-- the mode that a word names; with no word the lines run in their order
abbrev pub mode_of : Option Text → RunMode
mode_of None = Run
mode_of (Some word) = if bytes_eq word (codes "threads") then Threads else Run

-- clap takes the words, and the mode is that of the word that it found, if any
pub record Answers (words : List Text) (mode : RunMode) : Type 0 where
  pub names : Names
  pub modes : AreModes names
  pub taken : fault_of (ccan names) words ≡ []
  pub mode_is : mode ≡ mode_of (first_of (codes "mode") (matches_of (ccan names) words))

-- clap refuses the words
pub record Refuses (words : List Text) : Type 0 where
  pub names : Names
  pub modes : AreModes names
  pub refused : fault_of (ccan names) words ≢ []
