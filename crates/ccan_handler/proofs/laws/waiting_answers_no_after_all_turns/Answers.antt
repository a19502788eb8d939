use Rattle.ccan_handler.proofs.Rows.{no_law}
use Rattle.ccan_handler.proofs.laws.waiting_answers_no_after_all_turns.Goals as goal

pub returns : goal.returns
returns c = no_law
