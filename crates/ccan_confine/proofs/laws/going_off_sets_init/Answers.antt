use Rattle.ccan_confine.proofs.ControllerLaws.{off_sets_init}
use Rattle.ccan_confine.proofs.laws.going_off_sets_init.Goals as goal

pub returns : goal.returns
returns c = off_sets_init
