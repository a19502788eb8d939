-- To see the controller adds nothing to the chip's history. The port has only seen more of it, by the lemmas of
-- `ControllerCalls`, and what it answers is the word of the controller that this longer history leaves.
use Rattle.std.proofs.Common.{sym, refl, ap, ◌∙◌, subst}
use Rattle.ccan_confine.specs.Controller.{IsController, packed}
use Rattle.ccan_endless.specs.Chip.{ChipHistory, controller_at}
use Rattle.ccan_endless.proofs.ChipPorts.{knows_chip}
use Rattle.ccan_endless.proofs.ControllerCalls.{stepped_after, adds_no_event, adds_none, new_whole}
use Rattle.ccan_endless.proofs.ram.EndlessRam.see_controller.Goals as goal

pub invariant_of-port : goal.invariant_of-port
invariant_of-port c =
    let t = c.see_aside.ensures.told in
    let k = knows_chip c.port.inside c.port.invariant in
    stepped_after c.port.inside c.port.invariant c.port.view_is c.requires.memory c.see_aside.new.seat c.see_aside.ensures.same
    c.see_aside.ensures.seated k.whole k.had t.log t.log refl t.finds.ram (t.finds.goes_on c.port.inside.name k.whole k.had)
    t.view

pub returns-clause-none : goal.returns-clause-none
returns-clause-none c =
    let t = c.see_aside.ensures.told in
    let k = knows_chip c.port.inside c.port.invariant in
    adds_none c.port.inside c.port.invariant c.port.view_is c.requires.memory c.see_aside.new.seat c.see_aside.ensures.same
    c.see_aside.ensures.seated k.whole k.had t.log t.log refl t.finds.ram (t.finds.goes_on c.port.inside.name k.whole k.had)
    t.view refl

pub returns-clause-objects : goal.returns-clause-objects
returns-clause-objects c =
    let t = c.see_aside.ensures.told in
    let k = knows_chip c.port.inside c.port.invariant in
    adds_no_event c.port.inside c.port.invariant c.port.view_is c.requires.memory c.see_aside.new.seat c.see_aside.ensures.same
    c.see_aside.ensures.seated k.whole k.had t.log t.log refl t.finds.ram (t.finds.goes_on c.port.inside.name k.whole k.had)
    t.view

pub returns-clause-now : goal.returns-clause-now
returns-clause-now c =
    let t = c.see_aside.ensures.told in
    let k = knows_chip c.port.inside c.port.invariant in
    t.finds.found_is
    ∙ ap (λ (log : ChipHistory). packed (controller_at log))
    (sym (new_whole c.port.inside c.port.invariant c.port.view_is c.requires.memory c.see_aside.new.seat
    c.see_aside.ensures.same
    c.see_aside.ensures.seated k.whole k.had t.log t.log refl t.finds.ram (t.finds.goes_on c.port.inside.name k.whole k.had)
    t.view))

pub returns-clause-is : goal.returns-clause-is
returns-clause-is c =
    let t = c.see_aside.ensures.told in
    let k = knows_chip c.port.inside c.port.invariant in
    subst (λ (log : ChipHistory). IsController (controller_at log))
    (sym (new_whole c.port.inside c.port.invariant c.port.view_is c.requires.memory c.see_aside.new.seat
    c.see_aside.ensures.same
    c.see_aside.ensures.seated k.whole k.had t.log t.log refl t.finds.ram (t.finds.goes_on c.port.inside.name k.whole k.had)
    t.view))
    t.finds.is
