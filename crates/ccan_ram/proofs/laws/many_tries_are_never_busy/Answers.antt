use Rattle.ccan_ram.proofs.NeverBusy.{many_tries_are_never_busy}
use Rattle.ccan_ram.proofs.laws.many_tries_are_never_busy.Goals as goal

pub returns : goal.returns
returns c = many_tries_are_never_busy
