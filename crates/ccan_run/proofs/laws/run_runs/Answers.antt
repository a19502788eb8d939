use Rattle.ccan_run.proofs.CommandWords.{run_word}
use Rattle.ccan_run.proofs.laws.run_runs.Goals as goal

pub returns : goal.returns
returns c = run_word
