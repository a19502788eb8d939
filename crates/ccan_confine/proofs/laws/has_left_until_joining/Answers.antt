use Rattle.ccan_confine.proofs.ControllerLaws.{left_until_joining}
use Rattle.ccan_confine.proofs.laws.has_left_until_joining.Goals as goal

pub returns : goal.returns
returns c = left_until_joining
