use Rattle.ccan_confine.proofs.CounterLaws.{quiet_law}
use Rattle.ccan_confine.proofs.laws.on_without_send_faults.Goals as goal

pub returns : goal.returns
returns c = quiet_law
