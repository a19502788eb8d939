use Rattle.std.proofs.Common.{◌≤◌, length, arith}
use Rattle.std.proofs.lemmas.Result.{err_from_is_err_and}
use Rattle.ccan_object.specs.Profile.{objects_in}
use Rattle.ccan_run.proofs.OutcomeLines.{objects_begin, objects_break, objects_go_on}
use Rattle.ccan_run.proofs.outcome_text.add_finals.Goals as goal

pub loop-number-init : goal.loop-number-init
loop-number-init g c = objects_begin _ _ c.args.last.now.records

pub returns-in_err-add_final-clause-part : goal.returns-in_err-add_final-clause-part
returns-in_err-add_final-clause-part g c =
    let last = c.args.last.now in
    let n = c.loop-number.number in
    let known : n ≤ length last.records = omega arith in
    let here = rw c.unwrap-object.ensures at c.new.ensures.number in
    let left = rw c.from.ensures at c.index-last-from.is in
    let part = rw (← c.index-last-from.is) at c.in_err-add_final.ensures.part in
    let p = err_from_is_err_and c.from_residual.result c.from_residual.ensures.1 in
    rw p.1 (objects_break _ _ _ _ _ last.records n c.unwrap-object.result c.index-last-from.result (omega arith) known here left
    c.loop-number.invariant (objects_in last.profile) (omega arith) part)

pub loop-number-preserved : goal.loop-number-preserved
loop-number-preserved g c =
    let last = c.args.last.now in
    let n = c.loop-number.number in
    let known : n ≤ length last.records = omega arith in
    let here = rw c.unwrap-object.ensures at c.new.ensures.number in
    let left = rw c.from.ensures at c.index-last-from.is in
    let added = rw (← c.index-last-from.is) at c.in_ok-add_final.ensures.ok in
    objects_go_on _ _ _ _ _ last.records n c.unwrap-object.result c.index-last-from.result (omega arith) known here left
    c.loop-number.invariant _ added
