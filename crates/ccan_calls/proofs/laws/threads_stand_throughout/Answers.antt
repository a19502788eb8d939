use Rattle.ccan_calls.proofs.ThreadsStand.{bus_threads_stand, host_threads_stand}
use Rattle.ccan_calls.proofs.laws.threads_stand_throughout.Goals as goal

pub returns : goal.returns
returns c = record { host = host_threads_stand; bus = bus_threads_stand }
