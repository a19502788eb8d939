use Rattle.ccan_bus.proofs.Steps.{rounds_are_steps}
use Rattle.ccan_bus.proofs.laws.rounds_are_their_steps.Goals as goal

pub returns : goal.returns
returns c = rounds_are_steps
