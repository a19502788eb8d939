use Rattle.ccan_chip.proofs.RoundLaws.{rounds_find}
use Rattle.ccan_chip.proofs.laws.rounds_find_their_counters.Goals as goal

pub returns : goal.returns
returns c = rounds_find
