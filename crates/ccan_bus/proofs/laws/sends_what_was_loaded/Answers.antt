use Rattle.ccan_bus.proofs.LoadLaws.{sends_loaded}
use Rattle.ccan_bus.proofs.laws.sends_what_was_loaded.Goals as goal

pub returns : goal.returns
returns c = sends_loaded
