use Rattle.ccan_c.proofs.ThreadsFit.{fit_one_history}
use Rattle.ccan_c.proofs.laws.calls_fit_one_history.Goals as goal

pub returns : goal.returns
returns c = fit_one_history
