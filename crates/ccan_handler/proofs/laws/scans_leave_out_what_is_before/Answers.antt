use Rattle.ccan_handler.proofs.Own.{before_law}
use Rattle.ccan_handler.proofs.laws.scans_leave_out_what_is_before.Goals as goal

pub returns : goal.returns
returns c = before_law
