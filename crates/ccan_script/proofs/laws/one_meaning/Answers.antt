use Rattle.ccan_script.proofs.OneMeaning.{one_meaning}
use Rattle.ccan_script.proofs.laws.one_meaning.Goals as goal

pub returns : goal.returns
returns c = one_meaning
