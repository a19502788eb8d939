use Rattle.ccan_process.proofs.RunsOnce.{runs_once}
use Rattle.ccan_process.proofs.laws.processes_run_once.Goals as goal

pub returns : goal.returns
returns c start terms tries process seen added added' result result' alone some legal legal' runs runs' =
    runs_once terms alone tries some process seen added added' result result' legal legal' runs runs'
