use Rattle.std.proofs.Common.{rules}
use Rattle.ccan_confine.proofs.Calls.{listed_rec}
use Rattle.ccan_confine.proofs.counters.Counters.rec.Goals as goal

pub returns-clause-listed : goal.returns-clause-listed
returns-clause-listed c = λ host events held. listed_rec host events c.args.self _ (search rules) held
