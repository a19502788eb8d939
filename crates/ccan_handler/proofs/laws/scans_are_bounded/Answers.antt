use Rattle.ccan_handler.proofs.Own.{bounds_law}
use Rattle.ccan_handler.proofs.laws.scans_are_bounded.Goals as goal

pub returns : goal.returns
returns c = bounds_law
