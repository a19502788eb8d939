use Rattle.ccan_confine.proofs.CounterLaws.{bounded_law}
use Rattle.ccan_confine.proofs.laws.counters_are_bounded.Goals as goal

pub returns : goal.returns
returns c = bounded_law
