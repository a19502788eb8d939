use Rattle.ccan_confine.proofs.CounterLaws.{init_law}
use Rattle.ccan_confine.proofs.laws.not_back_before_init.Goals as goal

pub returns : goal.returns
returns c = init_law
