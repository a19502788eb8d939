use Rattle.ccan_accept.proofs.Acceptance.{accepts-decides}
use Rattle.ccan_accept.proofs.laws.accepted_place_by_place.Goals as goal

pub returns : goal.returns
returns c = accepts-decides
