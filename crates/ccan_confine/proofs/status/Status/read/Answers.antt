use Rattle.std.proofs.Common.{rules}
use Rattle.ccan_confine.proofs.StatusCalls.{adds_read}
use Rattle.ccan_confine.proofs.status.Status.read.Goals as goal

pub returns-clause-listed : goal.returns-clause-listed
returns-clause-listed c = adds_read c.args.self.now _ (search rules)
