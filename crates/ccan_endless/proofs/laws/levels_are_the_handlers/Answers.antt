use Rattle.ccan_endless.proofs.ChipLaws.{levels_stay}
use Rattle.ccan_endless.proofs.laws.levels_are_the_handlers.Goals as goal

pub returns : goal.returns
returns c = levels_stay
