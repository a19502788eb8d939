use Rattle.ccan_confine.proofs.ControllerLaws.{hosts_leave}
use Rattle.ccan_confine.proofs.laws.hosts_leave_the_counters.Goals as goal

pub returns : goal.returns
returns c = hosts_leave
