-- Between two turns each try so far was lost, so each has shown a controller that another port had made; a try that is made
-- then adds its one step to what the tries before it left.
use Rattle.std.proofs.Common.{sym, ap, ◌∙◌, subst, arith}
use Rattle.ccan_confine.specs.Controller.{IsController, packed}
use Rattle.ccan_endless.specs.Chip.{controller_at}
use Rattle.ccan_endless.specs.declared.chip.ControllerStep.TheVariants.{Make}
use Rattle.ccan_endless.proofs.ChipPorts.{none_through}
use Rattle.ccan_endless.proofs.ControllerChanges.{step_through, no_event_through, none_changed, one_changed}
use Rattle.ccan_endless.proofs.ram.EndlessRam.change_controller.Goals as goal

pub loop-turn-init : goal.loop-turn-init
loop-turn-init c =
    let e = c.see_controller-word.ensures in
    record {
      none = e.none;
      objects = e.objects;
      is = e.is;
      found = e.now;
      lost = none_changed c.see_controller-word.new.port.whole c.args.port.now.whole e.none.part;
    }

pub loop-turn-preserved : goal.loop-turn-preserved
loop-turn-preserved c =
    let i = c.loop-turn.invariant in
    let lost = c.in-Err.ensures.lost in
    let new = c.exchange_controller.new.port in
    let one =
    one_changed new.whole c.loop-turn.port.whole lost.2.part lost.2.to.legal
    (λ same. c.in-Err.ensures.differ (lost.0 ∙ (ap packed same ∙ sym i.found))) in
    let before = i.lost in
    record {
      none = none_through c.args.port.now c.loop-turn.port new i.none lost.2;
      objects = no_event_through c.args.port.now c.loop-turn.port new i.none.same i.objects c.in-Err.ensures.objects;
      is = lost.1;
      found = lost.0;
      lost = omega arith;
    }

pub returns-in-Ok-clause-made : goal.returns-in-Ok-clause-made
returns-in-Ok-clause-made c =
    let i = c.loop-turn.invariant in
    step_through c.args.port.now c.loop-turn.port c.exchange_controller.new.port (Make c.args.change.now) c.unpack-before.result
    i.none c.in-Ok.ensures.made.2

pub returns-in-Ok-clause-objects : goal.returns-in-Ok-clause-objects
returns-in-Ok-clause-objects c =
    let i = c.loop-turn.invariant in
    no_event_through c.args.port.now c.loop-turn.port c.exchange_controller.new.port i.none.same i.objects
    c.in-Ok.ensures.objects

pub exchange_controller-requires-clause-is : goal.exchange_controller-requires-clause-is
exchange_controller-requires-clause-is c =
    let i = c.loop-turn.invariant in
    subst IsController (sym (c.unpack-before.ensures (controller_at c.loop-turn.port.whole) i.is (sym i.found))) i.is

pub exchange_controller-requires-clause-word : goal.exchange_controller-requires-clause-word
exchange_controller-requires-clause-word c =
    let i = c.loop-turn.invariant in
    i.found ∙ ap packed (sym (c.unpack-before.ensures (controller_at c.loop-turn.port.whole) i.is (sym i.found)))
