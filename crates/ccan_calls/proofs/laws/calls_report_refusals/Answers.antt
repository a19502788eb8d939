use Rattle.ccan_calls.proofs.ThreadsReport.{bus_calls_report, host_calls_report}
use Rattle.ccan_calls.proofs.laws.calls_report_refusals.Goals as goal

pub returns : goal.returns
returns c = record { host = host_calls_report; bus = bus_calls_report }
