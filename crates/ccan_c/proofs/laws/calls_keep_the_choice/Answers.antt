use Rattle.ccan_c.proofs.KeepsChoice.{calls_on_bus_keep}
use Rattle.ccan_c.proofs.laws.calls_keep_the_choice.Goals as goal

pub returns : goal.returns
returns c = calls_on_bus_keep
