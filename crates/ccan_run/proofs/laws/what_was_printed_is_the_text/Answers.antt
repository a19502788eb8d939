use Rattle.ccan_run.proofs.OneText.{printed_text}
use Rattle.ccan_run.proofs.laws.what_was_printed_is_the_text.Goals as goal

pub returns : goal.returns
returns c = printed_text
