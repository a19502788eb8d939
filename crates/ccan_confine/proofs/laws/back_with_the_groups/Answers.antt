use Rattle.ccan_confine.proofs.CounterLaws.{back_law}
use Rattle.ccan_confine.proofs.laws.back_with_the_groups.Goals as goal

pub returns : goal.returns
returns c = back_law
