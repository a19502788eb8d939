use Rattle.std.proofs.Common.{rules}
use Rattle.ccan_confine.proofs.Calls.{listed_after}
use Rattle.ccan_confine.proofs.counters.Counters.after.Goals as goal

pub returns-then-is_off-clause-listed : goal.returns-then-is_off-clause-listed
returns-then-is_off-clause-listed c = listed_after c.args.event c.args.self _ (search rules)

pub returns-else-is_off-clause-listed : goal.returns-else-is_off-clause-listed
returns-else-is_off-clause-listed c = listed_after c.args.event c.args.self _ (search rules)
