use Rattle.ccan_wire.proofs.Ended.{decided_again}
use Rattle.ccan_wire.proofs.laws.decided_again_as_at_first.Goals as goal

pub returns : goal.returns
returns c = decided_again
