use Rattle.ccan_confine.proofs.Calls.{ignored_law}
use Rattle.ccan_confine.proofs.laws.groups_count_only_while_recovering.Goals as goal

pub returns : goal.returns
returns c = ignored_law
