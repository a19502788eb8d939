use Rattle.ccan_confine.proofs.CounterLaws.{groups_after_init_law}
use Rattle.ccan_confine.proofs.laws.not_back_before_the_groups_after_init.Goals as goal

pub returns : goal.returns
returns c = groups_after_init_law
