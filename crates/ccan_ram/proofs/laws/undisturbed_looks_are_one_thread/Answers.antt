use Rattle.ccan_ram.proofs.Undisturbed.{looks_undisturbed}
use Rattle.ccan_ram.proofs.laws.undisturbed_looks_are_one_thread.Goals as goal

pub returns : goal.returns
returns c = looks_undisturbed
