use Rattle.ccan_accept.proofs.Shown.{stored_reads_back}
use Rattle.ccan_accept.proofs.laws.stored_reads_back.Goals as goal

pub returns : goal.returns
returns c = stored_reads_back
