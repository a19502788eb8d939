use Rattle.ccan_run.proofs.OtherWords.{other_words}
use Rattle.ccan_run.proofs.laws.other_words_are_refused.Goals as goal

pub returns : goal.returns
returns c = other_words
