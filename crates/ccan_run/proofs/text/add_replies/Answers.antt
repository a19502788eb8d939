use Rattle.std.proofs.lemmas.Result.{err_from_is_err_and}
use Rattle.ccan_run.proofs.OutcomeLines.{lines_begin, lines_break, lines_go_on, replies_are}
use Rattle.ccan_run.proofs.text.add_replies.Goals as goal

pub loop-port-init : goal.loop-port-init
loop-port-init g c = lines_begin _ _ replies_are _ _

pub returns-in_err-add_line-clause-part : goal.returns-in_err-add_line-clause-part
returns-in_err-add_line-clause-part g c =
    let p = err_from_is_err_and c.from_residual.result c.from_residual.ensures.1 in
    rw p.1 (lines_break _ _ replies_are _ _ _ _ _ c.args.answers.now c.loop-port.port-index c.loop-port-item.result
    c.print_line.result.bytes c.loop-port-test.true c.loop-port-item.is c.print_line.ensures c.loop-port.invariant
    c.in_err-add_line.ensures.part)

pub loop-port-preserved : goal.loop-port-preserved
loop-port-preserved g c =
    lines_go_on _ _ replies_are _ _ _ _ _ c.args.answers.now c.loop-port.port-index c.loop-port-item.result
    c.print_line.result.bytes c.loop-port-test.true c.loop-port-item.is c.print_line.ensures c.loop-port.invariant _
    c.in_ok-add_line.ensures.ok
