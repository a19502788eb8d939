use Rattle.ccan_bus.proofs.ArbitrationLaws.{standard_wins}
use Rattle.ccan_bus.proofs.laws.standard_beats_extended.Goals as goal

pub returns : goal.returns
returns c = standard_wins
