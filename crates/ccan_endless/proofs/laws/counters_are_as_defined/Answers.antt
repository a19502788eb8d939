use Rattle.ccan_endless.proofs.ChipLaws.{chip_counters}
use Rattle.ccan_endless.proofs.laws.counters_are_as_defined.Goals as goal

pub returns : goal.returns
returns c = chip_counters
