use Rattle.std.proofs.Common.{ap, ◌∙◌}
use Rattle.ccan_line.specs.Script.{fields_of}
use Rattle.ccan_explain.specs.Step.{at_number, touched_of}
use Rattle.ccan_explain.proofs.StepsTaken.{step_taken}
use Rattle.ccan_explain.proofs.stepping.step_on.Goals as goal

pub returns-clause-runs : goal.returns-clause-runs
returns-clause-runs c =
    let turn = c.turn-reported in
    let before = c.all_records-before in
    let after = c.all_records-after in
    let records = touched_of (at_number before.result) (at_number after.result) in
    step_taken _ _ (fields_of c.args.script.now) c.args.bench.now turn.new.self c.args.port c.lines_run-line.result
    turn.result.answer turn.result.report c.nodes_off-off.result c.touched.result c.touched-2.result before.result after.result
    turn.ensures.runs before.ensures after.ensures c.nodes_off-off.ensures c.lines_run-line.ensures
    (c.touched.ensures ∙ ap records c.own_object.ensures) (c.touched-2.ensures ∙ ap records c.stored_object.ensures)
