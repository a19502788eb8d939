use Rattle.ccan_bus.proofs.LoopLaws.{lines_unheard}
use Rattle.ccan_bus.proofs.laws.lines_are_unheard_in_loop_back.Goals as goal

pub returns : goal.returns
returns c = lines_unheard
