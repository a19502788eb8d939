use Rattle.ccan_script.proofs.RaceMeaning.{script_is_a_race}
use Rattle.ccan_script.proofs.laws.a_script_is_a_race.Goals as goal

pub returns : goal.returns
returns c = script_is_a_race
