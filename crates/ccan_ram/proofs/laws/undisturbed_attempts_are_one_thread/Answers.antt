use Rattle.ccan_ram.proofs.Undisturbed.{attempts_undisturbed}
use Rattle.ccan_ram.proofs.laws.undisturbed_attempts_are_one_thread.Goals as goal

pub returns : goal.returns
returns c = attempts_undisturbed
