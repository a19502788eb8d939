use Rattle.ccan_process.proofs.RunsApart.{runs_apart}
use Rattle.ccan_process.proofs.laws.runs_are_apart.Goals as goal

pub returns : goal.returns
returns c start terms tries process seen added result some alone runs =
    runs_apart terms tries some process seen added result alone runs
