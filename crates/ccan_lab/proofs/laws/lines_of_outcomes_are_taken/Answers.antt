use Rattle.ccan_lab.proofs.Taken.{taken_of_outcomes}
use Rattle.ccan_lab.proofs.laws.lines_of_outcomes_are_taken.Goals as goal

pub returns : goal.returns
returns c = taken_of_outcomes
