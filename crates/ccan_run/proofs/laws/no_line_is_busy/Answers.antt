use Rattle.ccan_run.proofs.NeverBusy.{no_line_is_busy}
use Rattle.ccan_run.proofs.laws.no_line_is_busy.Goals as goal

pub returns : goal.returns
returns c = no_line_is_busy
