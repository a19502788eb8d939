use Rattle.ccan_confine.proofs.ControllerLaws.{counters_defined}
use Rattle.ccan_confine.proofs.laws.counters_are_as_defined.Goals as goal

pub returns : goal.returns
returns c = counters_defined
