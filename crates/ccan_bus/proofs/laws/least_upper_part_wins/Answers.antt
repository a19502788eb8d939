use Rattle.ccan_bus.proofs.ArbitrationLaws.{least_upper}
use Rattle.ccan_bus.proofs.laws.least_upper_part_wins.Goals as goal

pub returns : goal.returns
returns c = least_upper
