use Rattle.ccan_bus.proofs.AfterRounds.{at_one_moment}
use Rattle.ccan_bus.proofs.laws.loads_are_of_one_moment.Goals as goal

pub returns : goal.returns
returns c = at_one_moment
