use Rattle.ccan_run.proofs.OutcomeLines.{last_lines_are}
use Rattle.ccan_run.proofs.laws.last_lines_are_finals.Goals as goal

pub returns : goal.returns
returns c = last_lines_are
