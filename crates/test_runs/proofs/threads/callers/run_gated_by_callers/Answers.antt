use Rattle.ccan_line.specs.Script.{fields_of}
use Rattle.test_runs.proofs.Ended.{up_to}
use Rattle.test_runs.proofs.threads.callers.run_gated_by_callers.Goals as goal

pub returns-clause-up_to : goal.returns-clause-up_to
returns-clause-up_to g c =
    let contends = g.R.SharedRam.contends in
    let memory = g.R.SharedRam.memory c.args.all.0 in
    let script = fields_of c.args.script.now in
    let told = c.join-first.ensures in
    up_to contends memory script _ _ _ _ _ _ _
    c.requires.memory told.first.0 told.second.0 told.second.1.0 c.close.ensures
