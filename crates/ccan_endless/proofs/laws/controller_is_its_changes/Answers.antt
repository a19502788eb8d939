use Rattle.ccan_endless.proofs.ChipLaws.{its_changes}
use Rattle.ccan_endless.proofs.laws.controller_is_its_changes.Goals as goal

pub returns : goal.returns
returns c = its_changes
