use Rattle.ccan_bus.proofs.LoopLaws.{others_rest}
use Rattle.ccan_bus.proofs.laws.others_rest_in_loop_back.Goals as goal

pub returns : goal.returns
returns c = others_rest
