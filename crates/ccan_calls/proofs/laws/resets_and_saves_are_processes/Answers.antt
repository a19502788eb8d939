use Rattle.ccan_calls.proofs.ChipsRun.{resets, saves}
use Rattle.ccan_calls.proofs.laws.resets_and_saves_are_processes.Goals as goal

pub returns : goal.returns
returns c = record { resets = resets; saves = saves }
