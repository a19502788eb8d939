use Rattle.ccan_confine.proofs.StatusLaws.{passive_law}
use Rattle.ccan_confine.proofs.laws.passive_makes_nothing_pending.Goals as goal

pub returns : goal.returns
returns c = passive_law
