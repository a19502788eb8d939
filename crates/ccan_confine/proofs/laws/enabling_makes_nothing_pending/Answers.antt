use Rattle.ccan_confine.proofs.PendingInterrupt.{pending_enabled}
use Rattle.ccan_confine.proofs.laws.enabling_makes_nothing_pending.Goals as goal

pub returns : goal.returns
returns c = pending_enabled
