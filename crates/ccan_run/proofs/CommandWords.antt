-- What the command line means at words that are written out.
use Rattle.std.proofs.Common.{◌≡◌, ◌∙◌, ℕ, List, [], ◌∷◌, ◌||◌, Bool, refl, ap, codes, map, Bor, false}
use Rattle.std.specs.List.{list_any}
use Rattle.clap.specs.Words.{same_text, Text}
use Rattle.clap.proofs.OnLiterals.{clap_on_literals}
use Rattle.ccan_run.specs.declared.run_mode.RunMode.{RunMode}
use Rattle.ccan_run.specs.declared.run_mode.RunMode.TheVariants.{Run, Threads}
use Rattle.ccan_run.specs.RunMode.{Answers, AreModes, Names, Refuses, ccan}
use Rattle.ccan_run.specs.CommandLine.{NoWordRuns, RunRuns, ThreadsMeansThreads}

-- the names take what their texts take
takes_text : (ns : List (Bor (List ℕ))) (word : Text)
    → list_any (λ n. same_text false n.now word) ns ≡ list_any (λ n. same_text false n word) (map (λ n. n.now) ns)
takes_text [] word = refl
takes_text (n ∷ ns) word = ap (λ (b : Bool). same_text false n.now word || b) (takes_text ns word)

pub modes_take : (names : Names) (word : Text) → AreModes names
    → list_any (λ n. same_text false n.now word) names.now
    ≡ list_any (λ n. same_text false n word) (codes "run" ∷ codes "threads" ∷ [])
modes_take names word is = takes_text names.now word ∙ ap (list_any (λ n. same_text false n word)) is

no_word_means : (program : Text) (mode : RunMode) → Answers (program ∷ []) mode → mode ≡ Run
unfolding ccan clap_on_literals
no_word_means program mode h = h.mode_is

no_word_taken : (program : Text) → Refuses (program ∷ []) → ⊥
unfolding ccan clap_on_literals
no_word_taken program h = h.refused refl

pub no_word : NoWordRuns
no_word = record { taken = no_word_taken; means = no_word_means }

run_means : (program : Text) (mode : RunMode) → Answers (program ∷ codes "run" ∷ []) mode → mode ≡ Run
unfolding ccan clap_on_literals
run_means program mode h = h.mode_is

run_taken : (program : Text) → Refuses (program ∷ codes "run" ∷ []) → ⊥
unfolding ccan clap_on_literals
run_taken program h = h.refused (rw (modes_take h.names (codes "run") h.modes) refl)

pub run_word : RunRuns
run_word = record { taken = run_taken; means = run_means }

threads_means : (program : Text) (mode : RunMode) → Answers (program ∷ codes "threads" ∷ []) mode → mode ≡ Threads
unfolding ccan clap_on_literals
threads_means program mode h = h.mode_is

threads_taken : (program : Text) → Refuses (program ∷ codes "threads" ∷ []) → ⊥
unfolding ccan clap_on_literals
threads_taken program h = h.refused (rw (modes_take h.names (codes "threads") h.modes) refl)

pub threads_word : ThreadsMeansThreads
threads_word = record { taken = threads_taken; means = threads_means }
