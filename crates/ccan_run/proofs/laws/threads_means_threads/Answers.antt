use Rattle.ccan_run.proofs.CommandWords.{threads_word}
use Rattle.ccan_run.proofs.laws.threads_means_threads.Goals as goal

pub returns : goal.returns
returns c = threads_word
