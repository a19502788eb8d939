use Rattle.ccan_handler.proofs.Fitting.{chosen_law}
use Rattle.ccan_handler.proofs.laws.chosen_is_ready.Goals as goal

pub returns : goal.returns
returns c = chosen_law
