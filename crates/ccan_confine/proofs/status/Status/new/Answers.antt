use Rattle.ccan_confine.proofs.StatusCalls.{listed_new}
use Rattle.ccan_confine.proofs.status.Status.new.Goals as goal

pub returns-clause-listed : goal.returns-clause-listed
returns-clause-listed c = listed_new
