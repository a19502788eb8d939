use Rattle.ccan_bus.proofs.LoadLaws.{each_sends_loaded}
use Rattle.ccan_bus.proofs.laws.each_round_sends_what_was_loaded.Goals as goal

pub returns : goal.returns
returns c = each_sends_loaded
