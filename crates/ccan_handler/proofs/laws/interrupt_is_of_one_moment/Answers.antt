use Rattle.ccan_handler.proofs.MomentLaws.{interrupt_of_one_moment}
use Rattle.ccan_handler.proofs.laws.interrupt_is_of_one_moment.Goals as goal

pub returns : goal.returns
returns c = interrupt_of_one_moment
