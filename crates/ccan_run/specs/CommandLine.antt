-- What the words of the command line mean, after the program's name. Source: this project's own.
use Rattle.std.specs.Prelude.{◌≡◌, ◌≢◌, ℕ, List, [], ◌∷◌, codes, if◌then◌else◌}
use Rattle.std.specs.Str.{bytes_eq}
use Rattle.ccan_run.specs.declared.run_mode.RunMode.{RunMode}
use Rattle.ccan_run.specs.declared.run_mode.RunMode.TheVariants.{Run, Threads}
use Rattle.ccan_run.specs.RunMode.{Answers, Refuses}

-- the words are never refused, and what is answered is this mode
pub record MeansMode (words : List (List ℕ)) (mode : RunMode) : Type 0 where
  pub taken : (program : List ℕ) → Refuses (program ∷ words) → ⊥
  pub means : (program : List ℕ) (answered : RunMode) → Answers (program ∷ words) answered → answered ≡ mode

-- the words are never taken
abbrev pub AreRefused : List (List ℕ) → Type 0
AreRefused words = (program : List ℕ) (mode : RunMode) → Answers (program ∷ words) mode → ⊥

-- a command line without words runs the lines in their order, and so does the word `run`; the word `threads` runs them in threads
abbrev pub NoWordRuns : Type 0
NoWordRuns = MeansMode [] Run

abbrev pub RunRuns : Type 0
RunRuns = MeansMode (codes "run" ∷ []) Run

abbrev pub ThreadsMeansThreads : Type 0
ThreadsMeansThreads = MeansMode (codes "threads" ∷ []) Threads

-- the words without the first `--`, which ends the options and is no word of its own
abbrev pub without_options_end : List (List ℕ) → List (List ℕ)
without_options_end [] = []
without_options_end (word ∷ words) =
    if bytes_eq word (codes "--") then words else word ∷ without_options_end words

-- the words are some, and neither `run` alone nor `threads` alone
pub record AreOther (words : List (List ℕ)) : Type 0 where
  pub some : words ≢ []
  pub not_run : words ≢ codes "run" ∷ []
  pub not_threads : words ≢ codes "threads" ∷ []

-- every other command line is refused, however its words begin and however many they are
abbrev pub OtherWordsAreRefused : Type 0
OtherWordsAreRefused =
    (words : List (List ℕ)) → AreOther (without_options_end words) → AreRefused words
