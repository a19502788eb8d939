use Rattle.ccan_accept.proofs.Acceptance.{unmasked-accepts}
use Rattle.ccan_accept.proofs.laws.unmasked_accepts_its_own.Goals as goal

pub returns : goal.returns
returns c = unmasked-accepts
