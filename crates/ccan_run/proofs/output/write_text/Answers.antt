use Rattle.std.proofs.Common.{arith, length-drop}
use Rattle.std.proofs.lemmas.List.{take_rest}
use Rattle.ccan_run.proofs.Writes.{part_kept, part_of, writes_more}
use Rattle.ccan_run.proofs.output.write_text.Goals as goal

pub loop-written-preserved : goal.loop-written-preserved
loop-written-preserved g c = record {
  in_range = omega (arith, c.in-Ok.ensures.bound, length-drop c.loop-written.written c.args.text.now);
  so_far = writes_more _ _ _ c.args.text.now _ _ c.loop-written.invariant.so_far
      (rw take_rest at c.in-Ok.ensures.bytes);
}

pub returns-in-Ok-eq0-clause-part : goal.returns-in-Ok-eq0-clause-part
returns-in-Ok-eq0-clause-part g c =
    let text = c.args.text.now in
    part_of _ _ text _ (omega (arith, c.loop-written-test.true))
    (writes_more _ _ _ text c.loop-written.written c.in-Ok-eq0.field-0 c.loop-written.invariant.so_far
    (rw take_rest at c.in-Ok-eq0.ensures.bytes))

pub returns-in-Err-clause-part : goal.returns-in-Err-clause-part
returns-in-Err-clause-part g c =
    part_kept _ _ _ c.args.text.now c.loop-written.written c.loop-written-test.true
    c.loop-written.invariant.so_far c.in-Err.ensures.bytes
