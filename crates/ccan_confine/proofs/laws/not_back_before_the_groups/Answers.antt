use Rattle.ccan_confine.proofs.CounterLaws.{groups_law}
use Rattle.ccan_confine.proofs.laws.not_back_before_the_groups.Goals as goal

pub returns : goal.returns
returns c = groups_law
