use Rattle.ccan_handler.proofs.Rows.{flags_law}
use Rattle.ccan_handler.proofs.laws.flags_take_one_look_each.Goals as goal

pub returns : goal.returns
returns c = flags_law
