use Rattle.ccan_bus.proofs.OffLaws.{off_holds_nothing}
use Rattle.ccan_bus.proofs.laws.off_controllers_hold_nothing.Goals as goal

pub returns : goal.returns
returns c = off_holds_nothing
