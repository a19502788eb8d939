use Rattle.ccan_confine.proofs.CounterLaws.{off_law}
use Rattle.ccan_confine.proofs.laws.off_nodes_keep_their_counters.Goals as goal

pub returns : goal.returns
returns c = off_law
