use Rattle.ccan_confine.proofs.Calls.{first_clearing_law}
use Rattle.ccan_confine.proofs.laws.only_the_first_clearing_counts.Goals as goal

pub returns : goal.returns
returns c = first_clearing_law
