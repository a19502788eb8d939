use Rattle.std.proofs.Common.{rules}
use Rattle.ccan_confine.proofs.Calls.{listed_clear}
use Rattle.ccan_confine.proofs.counters.Counters.clear_init.Goals as goal

pub returns-then-is_off-clause-listed : goal.returns-then-is_off-clause-listed
returns-then-is_off-clause-listed c = listed_clear c.args.self _ (search rules)

pub returns-else-self-clause-listed : goal.returns-else-self-clause-listed
returns-else-self-clause-listed c = listed_clear c.args.self _ (search rules)
