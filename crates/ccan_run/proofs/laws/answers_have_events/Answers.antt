use Rattle.ccan_run.proofs.Answered.{answers_have_events}
use Rattle.ccan_run.proofs.laws.answers_have_events.Goals as goal

pub returns : goal.returns
returns c = answers_have_events
