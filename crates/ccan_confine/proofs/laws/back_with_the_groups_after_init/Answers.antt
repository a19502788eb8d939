use Rattle.ccan_confine.proofs.CounterLaws.{back_after_init_law}
use Rattle.ccan_confine.proofs.laws.back_with_the_groups_after_init.Goals as goal

pub returns : goal.returns
returns c = back_after_init_law
