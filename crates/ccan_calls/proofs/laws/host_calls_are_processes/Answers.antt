use Rattle.ccan_calls.proofs.HostCallsRun.{host_calls}
use Rattle.ccan_calls.proofs.laws.host_calls_are_processes.Goals as goal

pub returns : goal.returns
returns c = host_calls
