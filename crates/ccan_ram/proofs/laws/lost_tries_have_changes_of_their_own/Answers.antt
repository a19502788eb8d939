use Rattle.ccan_ram.proofs.NeverBusy.{lost_tries_have_changes}
use Rattle.ccan_ram.proofs.laws.lost_tries_have_changes_of_their_own.Goals as goal

pub returns : goal.returns
returns c = lost_tries_have_changes
