use Rattle.ccan_lab.proofs.ToldLines.{prints_alike, prints_its_line, prints_its_outcome}
use Rattle.ccan_lab.proofs.laws.what_is_reported_prints_alike.Goals as goal

pub returns-clause-ends : goal.returns-clause-ends
returns-clause-ends c = prints_its_line

pub returns-clause-endings : goal.returns-clause-endings
returns-clause-endings c = prints_alike

pub returns-clause-outcomes : goal.returns-clause-outcomes
returns-clause-outcomes c = prints_its_outcome
