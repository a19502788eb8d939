use Rattle.ccan_c.proofs.TurnsInOrder.{turns_in_order}
use Rattle.ccan_c.proofs.laws.turns_run_in_order.Goals as goal

pub returns : goal.returns
returns c = turns_in_order
