use Rattle.ccan_calls.proofs.BusCallsRun.{bus_calls}
use Rattle.ccan_calls.proofs.laws.bus_calls_are_processes.Goals as goal

pub returns : goal.returns
returns c = bus_calls
