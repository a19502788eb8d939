use Rattle.ccan_wire.proofs.Ended.{one_wire}
use Rattle.ccan_wire.proofs.laws.each_round_has_one_wire.Goals as goal

pub returns : goal.returns
returns c = one_wire
