use Rattle.ccan_confine.proofs.ControllerLaws.{masks_keep}
use Rattle.ccan_confine.proofs.laws.masks_lose_nothing.Goals as goal

pub returns : goal.returns
returns c = masks_keep
