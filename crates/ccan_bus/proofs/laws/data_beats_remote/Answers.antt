use Rattle.ccan_bus.proofs.ArbitrationLaws.{data_wins}
use Rattle.ccan_bus.proofs.laws.data_beats_remote.Goals as goal

pub returns : goal.returns
returns c = data_wins
