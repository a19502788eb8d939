use Rattle.ccan_handler.proofs.Rows.{interrupt_law}
use Rattle.ccan_handler.proofs.laws.interrupts_are_bounded.Goals as goal

pub returns : goal.returns
returns c = interrupt_law
