use Rattle.std.proofs.Common.{rules}
use Rattle.ccan_confine.proofs.StatusCalls.{adds_event}
use Rattle.ccan_confine.proofs.status.Status.after.Goals as goal

pub returns-clause-listed : goal.returns-clause-listed
returns-clause-listed c = adds_event c.args.event c.args.counters.now.levels c.args.self.now _ (search rules)
