use Rattle.ccan_bus.proofs.AfterRounds.{refused_leave}
use Rattle.ccan_bus.proofs.laws.refused_loads_leave_all.Goals as goal

pub returns : goal.returns
returns c = refused_leave
