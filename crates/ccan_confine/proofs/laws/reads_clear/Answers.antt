use Rattle.ccan_confine.proofs.StatusLaws.{read_law}
use Rattle.ccan_confine.proofs.laws.reads_clear.Goals as goal

pub returns : goal.returns
returns c = read_law
