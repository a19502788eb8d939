use Rattle.ccan_bus.proofs.RoundSenders.{one_on_success}
use Rattle.ccan_bus.proofs.laws.one_sends_exactly_on_success.Goals as goal

pub returns : goal.returns
returns c = one_on_success
