use Rattle.std.proofs.Common.{◌≤◌, ◌∙◌, ap, sym, refl, arith}
use Rattle.std.proofs.lemmas.List.Elements.{All-push}
use Rattle.serde_json.specs.View.{view}
use Rattle.serde_json.specs.declared.value.Value.{Value}
use Rattle.ccan_script.specs.FrameLine.{frame_fault, sending_of}
use Rattle.ccan_script.specs.Round.{frames_fault}
use Rattle.ccan_script.proofs.Rows.{found, kept, more}
use Rattle.ccan_script.proofs.round.read_frames.Goals as goal

pub loop-value-init : goal.loop-value-init
unfolding frames_fault
loop-value-init c =
    rw c.new-sends.ensures (record { passed = refl; items = refl; many = refl; senders = λ k d h. absurd (omega arith) })

pub returns-in-Err-clause-reads : goal.returns-in-Err-clause-reads
unfolding frames_fault
returns-in-Err-clause-reads c =
    let vs = c.args.values.now in
    let i = c.loop-value.value-index in
    let v = c.value-item.result in
    found (frame_fault c.args.context.nodes) vs i v c.in-Err.fault c.loop-value-test.true c.loop-value.invariant.passed
    (ap (λ (w : Value). frame_fault c.args.context.nodes (view w)) (sym c.value-item.is) ∙ c.in-Err.ensures.reads)

pub loop-value-preserved : goal.loop-value-preserved
unfolding frames_fault
loop-value-preserved c =
    let vs = c.args.values.now in
    let i = c.loop-value.value-index in
    let v = c.value-item.result in
    let inv = c.loop-value.invariant in
    record {
      passed = more (frame_fault c.args.context.nodes) vs i v c.loop-value-test.true inv.passed
          ∙ ap (λ (w : Value). frame_fault c.args.context.nodes (view w)) (sym c.value-item.is) ∙ c.in-Ok.ensures.reads.0;
      items = kept sending_of vs i v _ _ c.in-Ok.sending c.loop-value-test.true inv.items
          (c.in-Ok.ensures.reads.1 ∙ ap (λ (w : Value). sending_of (view w)) c.value-item.is) c.push.ensures.items;
      many = omega (arith, c.push.ensures.len, inv.many);
      senders = rw c.push.ensures.items
          (All-push (λ s. (1 ≤ s.0) × (s.0 ≤ c.args.context.nodes)) _ c.in-Ok.sending inv.senders c.in-Ok.ensures.sender);
    }
