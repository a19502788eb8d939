use Rattle.std.proofs.Common.{ℕ, ◌∙◌, false, Some, ap, arith, length-set, set}
use Rattle.std.proofs.lemmas.Option.{slice_get-get_or}
use Rattle.ccan_confine.specs.Counters.{is_off}
use Rattle.ccan_bus.specs.Past.{levels_at}
use Rattle.ccan_explain.proofs.StepRecords.{offs_more}
use Rattle.ccan_explain.proofs.stepping.nodes_off.Goals as goal

pub loop-node-preserved : goal.loop-node-preserved
loop-node-preserved c =
    let so_far = c.loop-node.invariant in
    let few = c.args.bus.now.few in
    let named = c.others-node-end.ensures in
    let made = ap (λ (i : ℕ). set c.loop-node.off i c.is_node_off.result) c.from.ensures in
    record {
      size = length-set c.loop-node.off c.from.result c.is_node_off.result ∙ so_far.size;
      told = λ past led.
          offs_more (λ k. is_off (levels_at past k)) c.loop-node.node c.loop-node.off _ c.is_node_off.result (omega arith) made
          (c.is_node_off.ensures past led) (so_far.told past led);
    }

pub returns : goal.returns
returns c =
    λ past led node less.
    let so_far = c.loop-node.invariant in
    let few = c.args.bus.now.few in
    let others = led.others in
    let named = c.others-node-end.ensures in
    slice_get-get_or c.loop-node.off node false (omega arith) ∙ ap Some (so_far.told past led node (omega arith))
