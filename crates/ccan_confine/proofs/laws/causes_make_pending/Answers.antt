use Rattle.ccan_confine.proofs.StatusLaws.{cause_law}
use Rattle.ccan_confine.proofs.laws.causes_make_pending.Goals as goal

pub returns : goal.returns
returns c = cause_law
