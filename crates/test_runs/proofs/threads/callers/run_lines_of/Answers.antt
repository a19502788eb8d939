use Rattle.std.proofs.Common.{ap, ◌∙◌}
use Rattle.ccan_run.proofs.AtOnce.{ran_from_opened}
use Rattle.test_runs.proofs.threads.callers.run_lines_of.Goals as goal

pub returns-clause-ran : goal.returns-clause-ran
returns-clause-ran g c =
    let opened = ap g.R.SharedRam.pass c.new-access.ensures.port ∙ c.requires.opened in
    let ran = c.run_port-stopped.ensures in
    rw c.into_port.ensures.port (ran_from_opened _ _ _ _ _ _ _ _ opened ran.runs ran.stopped)
