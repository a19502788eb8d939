use Rattle.ccan_confine.proofs.ControllerLaws.{reads_clear}
use Rattle.ccan_confine.proofs.laws.status_reads_clear.Goals as goal

pub returns : goal.returns
returns c = reads_clear
