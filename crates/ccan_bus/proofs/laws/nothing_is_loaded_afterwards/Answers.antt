use Rattle.ccan_bus.proofs.AfterRounds.{nothing_after}
use Rattle.ccan_bus.proofs.laws.nothing_is_loaded_afterwards.Goals as goal

pub returns : goal.returns
returns c = nothing_after
