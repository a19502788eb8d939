use Rattle.ccan_calls.proofs.OneLine.{one_line}
use Rattle.ccan_calls.proofs.laws.offers_are_one_line.Goals as goal

pub returns : goal.returns
returns c = one_line
