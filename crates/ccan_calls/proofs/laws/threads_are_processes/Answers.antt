use Rattle.ccan_calls.proofs.ThreadsRun.{bus_threads, host_threads}
use Rattle.ccan_calls.proofs.laws.threads_are_processes.Goals as goal

pub returns : goal.returns
returns c = record { host = host_threads; bus = bus_threads }
