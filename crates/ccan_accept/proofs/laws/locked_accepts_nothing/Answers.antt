use Rattle.ccan_accept.proofs.Acceptance.{locked-accepts}
use Rattle.ccan_accept.proofs.laws.locked_accepts_nothing.Goals as goal

pub returns : goal.returns
returns c = locked-accepts
