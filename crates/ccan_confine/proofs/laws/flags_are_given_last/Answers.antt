use Rattle.ccan_confine.proofs.ControllerLaws.{given_last}
use Rattle.ccan_confine.proofs.laws.flags_are_given_last.Goals as goal

pub returns : goal.returns
returns c = given_last
