use Rattle.std.proofs.Common.{List, sym, subst}
use Rattle.std.proofs.lemmas.Result.{on_ok_weaker}
use Rattle.ccan_ram.specs.declared.port.PortName.{PortName}
use Rattle.ccan_line.specs.declared.line_answer.LineAnswer.{LineAnswer}
use Rattle.ccan_line.specs.Script.{fields_of}
use Rattle.ccan_run.specs.Ordered.{RunsTo}
use Rattle.ccan_run.proofs.Printed.{prints_part, prints_text, whole_text}
use Rattle.ccan_run.proofs.ordered.run_ordered.Goals as goal

pub returns-clause-ok : goal.returns-clause-ok
returns-clause-ok g c =
    let script = fields_of c.args.script.now in
    let ran = subst (λ (answers : List (PortName × LineAnswer)). RunsTo script answers c.run_lines_in_order-left.result)
    (sym c.deref.ensures.value) c.run_lines_in_order-left.ensures.runs in
    on_ok_weaker c.print_run.result
    (prints_text script _ _ _ (whole_text script c.deref.result.now _ ran)) c.print_run.ensures.ok

pub returns-clause-err : goal.returns-clause-err
returns-clause-err g c =
    let script = fields_of c.args.script.now in
    let ran = subst (λ (answers : List (PortName × LineAnswer)). RunsTo script answers c.run_lines_in_order-left.result)
    (sym c.deref.ensures.value) c.run_lines_in_order-left.ensures.runs in
    prints_part script _ _ _ (whole_text script c.deref.result.now _ ran) c.print_run.result c.print_run.ensures.fault
    c.print_run.ensures.part
