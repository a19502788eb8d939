use Rattle.ccan_calls.proofs.FramesRun.{frame_calls}
use Rattle.ccan_calls.proofs.laws.frame_calls_are_processes.Goals as goal

pub returns : goal.returns
returns c = frame_calls
