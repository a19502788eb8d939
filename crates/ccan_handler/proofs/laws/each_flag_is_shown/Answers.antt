use Rattle.ccan_handler.proofs.Rows.{shown_law}
use Rattle.ccan_handler.proofs.laws.each_flag_is_shown.Goals as goal

pub returns : goal.returns
returns c = shown_law
