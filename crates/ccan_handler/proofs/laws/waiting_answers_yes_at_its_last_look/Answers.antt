use Rattle.ccan_handler.proofs.Rows.{yes_law}
use Rattle.ccan_handler.proofs.laws.waiting_answers_yes_at_its_last_look.Goals as goal

pub returns : goal.returns
returns c = yes_law
