use Rattle.ccan_bus.proofs.LoadLaws.{loops_loaded}
use Rattle.ccan_bus.proofs.laws.loops_what_was_loaded.Goals as goal

pub returns : goal.returns
returns c = loops_loaded
