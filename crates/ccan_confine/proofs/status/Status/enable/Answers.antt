use Rattle.std.proofs.Common.{rules}
use Rattle.ccan_confine.proofs.StatusCalls.{adds_enabling}
use Rattle.ccan_confine.proofs.status.Status.enable.Goals as goal

pub returns-clause-listed : goal.returns-clause-listed
returns-clause-listed c = adds_enabling c.args.sie c.args.eie c.args.self.now _ (search rules)
