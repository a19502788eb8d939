use Rattle.ccan_run.proofs.OneText.{one_text}
use Rattle.ccan_run.proofs.laws.one_text.Goals as goal

pub returns : goal.returns
returns c = one_text
