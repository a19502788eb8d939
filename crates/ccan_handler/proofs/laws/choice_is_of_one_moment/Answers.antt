use Rattle.ccan_handler.proofs.MomentLaws.{choice_of_one_moment}
use Rattle.ccan_handler.proofs.laws.choice_is_of_one_moment.Goals as goal

pub returns : goal.returns
returns c = choice_of_one_moment
