use Rattle.std.proofs.Common.{rules}
use Rattle.ccan_confine.proofs.Calls.{listed_state}
use Rattle.ccan_confine.proofs.counters.Counters.state.Goals as goal

pub returns-then-is_off-clause-listed : goal.returns-then-is_off-clause-listed
returns-then-is_off-clause-listed c = λ host events held. listed_state host events c.args.self _ (search rules) held

pub returns-then-reaches-clause-listed : goal.returns-then-reaches-clause-listed
returns-then-reaches-clause-listed c = λ host events held. listed_state host events c.args.self _ (search rules) held

pub returns-else-reaches-clause-listed : goal.returns-else-reaches-clause-listed
returns-else-reaches-clause-listed c = λ host events held. listed_state host events c.args.self _ (search rules) held
