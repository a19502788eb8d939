use Rattle.ccan_run.proofs.CommandWords.{no_word}
use Rattle.ccan_run.proofs.laws.no_word_runs.Goals as goal

pub returns : goal.returns
returns c = no_word
