use Rattle.std.proofs.lemmas.Result.{err_from_is_err_and}
use Rattle.ccan_run.proofs.OutcomeLines.{lines_begin, lines_break, lines_go_on, port_lines_are}
use Rattle.ccan_run.proofs.outcome_text.add_answers.Goals as goal

pub loop-answer-init : goal.loop-answer-init
loop-answer-init g c = lines_begin _ _ (port_lines_are c.args.port) _ _

pub returns-in_err-add_line-clause-part : goal.returns-in_err-add_line-clause-part
returns-in_err-add_line-clause-part g c =
    let p = err_from_is_err_and c.from_residual.result c.from_residual.ensures.1 in
    rw p.1 (lines_break _ _ (port_lines_are c.args.port) _ _ _ _ _ c.args.answers.now c.loop-answer.answer-index
    c.answer-item.result c.print_line.result.bytes c.loop-answer-test.true c.answer-item.is c.print_line.ensures
    c.loop-answer.invariant c.in_err-add_line.ensures.part)

pub loop-answer-preserved : goal.loop-answer-preserved
loop-answer-preserved g c =
    lines_go_on _ _ (port_lines_are c.args.port) _ _ _ _ _ c.args.answers.now c.loop-answer.answer-index c.answer-item.result
    c.print_line.result.bytes c.loop-answer-test.true c.answer-item.is c.print_line.ensures c.loop-answer.invariant _
    c.in_ok-add_line.ensures.ok
