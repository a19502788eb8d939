use Rattle.ccan_confine.proofs.Steps.{counts-off}
use Rattle.ccan_confine.proofs.counters.Counters.gone_off.Goals as goal

pub returns-clause-listed : goal.returns-clause-listed
returns-clause-listed c = counts-off
