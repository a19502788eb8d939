use Rattle.ccan_handler.proofs.Own.{everywhere_law}
use Rattle.ccan_handler.proofs.laws.nothing_found_looks_everywhere.Goals as goal

pub returns : goal.returns
returns c = everywhere_law
