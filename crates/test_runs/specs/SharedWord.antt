-- What threads do with a word that they share. Source: this project's own.
use Rattle.std.specs.Prelude.{ℕ, ◌==◌, List, [], ◌∷◌, if◌then◌else◌}
use Rattle.ccan_every.specs.declared.device.Step.{Step}
use Rattle.test_runs.specs.declared.shared_word.WordAct.{WordAct}
use Rattle.test_runs.specs.declared.shared_word.WordAct.TheVariants.{Reads, Takes, Writes}

-- what the act can lead to: who takes the word waits until it is 0, and leaves 1 there
abbrev pub word_steps : WordAct → ℕ → List (Step ℕ ℕ)
word_steps Reads word = record { memory = word; answer = word } ∷ []
word_steps (Writes number) word = record { memory = number; answer = number } ∷ []
word_steps Takes word = if word == 0 then record { memory = 1; answer = 1 } ∷ [] else []
