use Rattle.std.proofs.lemmas.Result.{err_from_is_err_and, on_err_weaker, on_ok_weaker}
use Rattle.ccan_run.proofs.Waits.{all_out, part_out}
use Rattle.ccan_run.proofs.outcome_text.print_finals.Goals as goal

pub returns-in_err-add_finals-clause-part : goal.returns-in_err-add_finals-clause-part
returns-in_err-add_finals-clause-part g c =
    let p = err_from_is_err_and c.from_residual.result c.from_residual.ensures.1 in
    rw p.1 c.in_err-add_finals.ensures.part

pub returns-clause-ok : goal.returns-clause-ok
returns-clause-ok g c =
    on_ok_weaker c.write_text.result
    (all_out _ _ _ _ _ _ _ c.in_ok-add_finals.ensures.ok c.as_slice.ensures.value) c.write_text.ensures.ok

pub returns-clause-part : goal.returns-clause-part
returns-clause-part g c =
    on_err_weaker c.write_text.result
    (part_out _ _ _ _ _ _ _ c.in_ok-add_finals.ensures.ok c.as_slice.ensures.value) c.write_text.ensures.part
