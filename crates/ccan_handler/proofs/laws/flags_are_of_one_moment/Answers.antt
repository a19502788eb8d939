use Rattle.ccan_handler.proofs.MomentLaws.{flags_of_one_moment}
use Rattle.ccan_handler.proofs.laws.flags_are_of_one_moment.Goals as goal

pub returns : goal.returns
returns c = flags_of_one_moment
