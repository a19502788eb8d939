-- The loop has run the lines that the order names so far.
use Rattle.std.proofs.Common.{◌∷◌, ◌+◌, ◌∙◌, drop, refl, ap, sym}
use Rattle.ccan_ram.specs.declared.port.PortName.{PortName}
use Rattle.ccan_ram.specs.declared.port.PortName.TheVariants.{If1, If2, Bus}
use Rattle.ccan_line.specs.Script.{fields_of}
use Rattle.ccan_run.proofs.Turns.{left_after, names_left}
use Rattle.ccan_explain.specs.Told.{in_order}
use Rattle.ccan_explain.proofs.SoFar.{all_left, so_far_more, so_far_none, step_in}
use Rattle.ccan_explain.proofs.told.run_all.Goals as goal

pub loop-port-init : goal.loop-port-init
loop-port-init c =
    let script = in_order (fields_of c.args.script.now) c.args.order.now in
    let none = c.requires.none in
    record {
      serves = c.requires.serves;
      left = all_left script c.args.bench.now none (c.requires.order If1) (c.requires.order If2) (c.requires.order Bus);
      so_far = so_far_none script _ _ _ _ c.requires.seen c.requires.opened (none If1) (none If2) (none Bus) refl
          c.requires.empty;
    }

pub loop-port-preserved : goal.loop-port-preserved
loop-port-preserved c =
    let script = in_order (fields_of c.args.script.now) c.args.order.now in
    let items = c.args.order.now in
    let i = c.loop-port.port-index in
    let within = c.loop-port-test.true in
    let so_far = c.loop-port.invariant in
    let turn = c.step_on.ensures in
    let named = names_left items items refl i If1 within ∙ ap (λ (p : PortName). p ∷ drop (i + 1) items) (sym turn.port) in
    record {
      serves = turn.serves;
      left = λ name. left_after items items refl i If1 within _ _ _ name (turn.next name) (so_far.left name);
      so_far = so_far_more script _ _ _ _ c.step_on.result _ _ so_far.so_far (step_in _ _ _ _ _ _ _ turn.runs) _ _ named
          c.in_ok-push_one.ensures;
    }
