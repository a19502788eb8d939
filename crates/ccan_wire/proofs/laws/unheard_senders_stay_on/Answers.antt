use Rattle.ccan_wire.proofs.Lone.{stays_on}
use Rattle.ccan_wire.proofs.laws.unheard_senders_stay_on.Goals as goal

pub returns : goal.returns
returns c = stays_on
