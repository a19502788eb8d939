use Rattle.std.proofs.Common.{◌++◌, [], refl, sym, ap, append-nil}
use Rattle.std.proofs.lemmas.Result.{err_from_is_err_and, on_err_weaker, on_ok_weaker}
use Rattle.ccan_run.specs.Ordered.{answers_text}
use Rattle.ccan_run.specs.Outcome.{last_lines}
use Rattle.ccan_run.proofs.Waits.{adds_all, adds_none, part_in}
use Rattle.ccan_run.proofs.text.print_run.Goals as goal

pub returns-in_err-add_replies-clause-part : goal.returns-in_err-add_replies-clause-part
returns-in_err-add_replies-clause-part g c =
    let p = err_from_is_err_and c.from_residual.result c.from_residual.ensures.1 in
    rw p.1 (part_in _ _ _ _ _ [] (answers_text c.args.answers.now) (last_lines c.args.left.now) _ c.new-waiting.ensures
    (adds_none _ _) c.in_err-add_replies.ensures.part refl)

pub returns-clause-ok : goal.returns-clause-ok
returns-clause-ok g c =
    on_ok_weaker c.print_finals.result
    (adds_all _ _ _ _ _ _ (last_lines c.args.left.now) _ c.new-waiting.ensures c.in_ok-add_replies.ensures.ok refl)
    c.print_finals.ensures.ok

pub returns-clause-part : goal.returns-clause-part
returns-clause-part g c =
    let last = last_lines c.args.left.now in
    let text = answers_text c.args.answers.now in
    on_err_weaker c.print_finals.result
    (λ part. part_in _ _ _ _ _ text last [] (text ++ last) c.new-waiting.ensures c.in_ok-add_replies.ensures.ok part
    (ap (λ z. text ++ z) (sym (append-nil last)))) c.print_finals.ensures.part
