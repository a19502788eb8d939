use Rattle.std.proofs.Common.{sym}
use Rattle.ccan_confine.proofs.Steps.{counts-none}
use Rattle.ccan_confine.proofs.counters.Counters.new.Goals as goal

pub returns-clause-listed : goal.returns-clause-listed
returns-clause-listed c = sym (counts-none c.args.host)
