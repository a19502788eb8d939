use Rattle.std.proofs.Common.{Some, None}
use Rattle.ccan_run.proofs.OutcomeLines.{final_part_is}
use Rattle.ccan_run.proofs.Waits.{adds_none}
use Rattle.ccan_run.proofs.outcome_text.add_final.Goals as goal

pub returns-in-Some-clause-ok : goal.returns-in-Some-clause-ok
returns-in-Some-clause-ok g c =
    rw (← final_part_is c.args.object c.args.left.now (Some c.in-Some.line.bytes) c.in-Some.ensures) c.add_line.ensures.ok

pub returns-in-Some-clause-part : goal.returns-in-Some-clause-part
returns-in-Some-clause-part g c =
    rw (← final_part_is c.args.object c.args.left.now (Some c.in-Some.line.bytes) c.in-Some.ensures) c.add_line.ensures.part

pub returns-in-None-clause-ok : goal.returns-in-None-clause-ok
returns-in-None-clause-ok g c = rw (← final_part_is c.args.object c.args.left.now None c.in-None.ensures) (adds_none _ _)
