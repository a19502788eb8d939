use Rattle.ccan_handler.proofs.Fitting.{fitting_law}
use Rattle.ccan_handler.proofs.laws.fitting_is_not_passed_over.Goals as goal

pub returns : goal.returns
returns c = fitting_law
