use Rattle.ccan_wire.proofs.LoopBack.{deaf}
use Rattle.ccan_wire.proofs.laws.loop_back_disregards_the_bus.Goals as goal

pub returns : goal.returns
returns c = deaf
