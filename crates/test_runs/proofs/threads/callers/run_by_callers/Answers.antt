use Rattle.ccan_line.specs.Script.{fields_of}
use Rattle.test_runs.proofs.Ended.{whole}
use Rattle.test_runs.proofs.threads.callers.run_by_callers.Goals as goal

pub returns : goal.returns
returns g c =
    let ran = c.run_gated_by_callers.ensures in
    whole g.R.SharedRam.contends (fields_of c.args.script.now) _ _ _ _ _ _ _ _ _ _ ran.if1 ran.if2 ran.bus ran.up_to
