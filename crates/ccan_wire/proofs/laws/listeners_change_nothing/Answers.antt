use Rattle.ccan_wire.proofs.Listening.{same_wire}
use Rattle.ccan_wire.proofs.laws.listeners_change_nothing.Goals as goal

pub returns : goal.returns
returns c = λ m other wire h a. same_wire m other h wire a
