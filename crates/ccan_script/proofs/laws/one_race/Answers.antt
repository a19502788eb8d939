use Rattle.ccan_script.proofs.RaceMeaning.{one_race}
use Rattle.ccan_script.proofs.laws.one_race.Goals as goal

pub returns : goal.returns
returns c = one_race
