use Rattle.std.proofs.Common.{rules}
use Rattle.ccan_confine.proofs.Calls.{listed_recovering}
use Rattle.ccan_confine.proofs.counters.Counters.recovering.Goals as goal

pub returns-then-not-self-clause-listed : goal.returns-then-not-self-clause-listed
returns-then-not-self-clause-listed c = λ host events held. listed_recovering host events c.args.self _ (search rules) held

pub returns-else-not-self-clause-listed : goal.returns-else-not-self-clause-listed
returns-else-not-self-clause-listed c = λ host events held. listed_recovering host events c.args.self _ (search rules) held

pub returns-else-is_off-clause-listed : goal.returns-else-is_off-clause-listed
returns-else-is_off-clause-listed c = λ host events held. listed_recovering host events c.args.self _ (search rules) held
