use Rattle.ccan_calls.proofs.ActSteps.{acts_have_steps}
use Rattle.ccan_calls.proofs.laws.acts_have_their_steps.Goals as goal

pub returns : goal.returns
returns c = acts_have_steps
