-- The exchange either finds the word of the controller that was expected, and the port's history goes on by its change; or it
-- finds another, and the port has only seen more. Both are said by the lemmas of `ControllerCalls`.
use Rattle.std.proofs.Common.{ap, ◌∷◌, sym, refl, ◌∙◌, subst}
use Rattle.ccan_confine.specs.Controller.{IsController, packed}
use Rattle.ccan_endless.specs.Chip.{ChipHistory, controller_at, step_at}
use Rattle.ccan_endless.specs.declared.chip.ChipEvent.TheVariants.{OfController}
use Rattle.ccan_endless.specs.declared.chip.ControllerStep.TheVariants.{Make}
use Rattle.ccan_endless.proofs.Seats.{only_holds}
use Rattle.ccan_endless.proofs.ControllerCalls.{stepped_after, adds_no_event, adds_step, adds_none, new_whole}
use Rattle.ccan_endless.proofs.ram.EndlessRam.exchange_controller.Goals as goal

pub set_aside-found-requires-clause-held : goal.set_aside-found-requires-clause-held
set_aside-found-requires-clause-held c =
    let i = c.port.invariant in (i.held, only_holds c.port.inside.name i.held c.port.inside.seat.me i.view)

pub invariant_of-port : goal.invariant_of-port
invariant_of-port c =
    let t = c.set_aside-found.ensures.told in
    let h = c.set_aside-found.ensures.had in
    let log = OfController (step_at c.port.inside.name (Make c.args.change.now) c.args.before.now) ∷ t.log in
    stepped_after c.port.inside c.port.invariant c.port.view_is c.requires.memory c.set_aside-found.new.seat
    c.set_aside-found.ensures.same c.set_aside-found.ensures.seated h.0 h.1 t.log log refl t.finds.ram
    (t.finds.goes_on c.port.inside.name h.0 h.1) (t.done (c.if-found-word.true ∙ c.requires.word)).1

pub returns-then-found-word-clause-made : goal.returns-then-found-word-clause-made
returns-then-found-word-clause-made c =
    let t = c.set_aside-found.ensures.told in
    let h = c.set_aside-found.ensures.had in
    let d = t.done (c.if-found-word.true ∙ c.requires.word) in
    let log = OfController (step_at c.port.inside.name (Make c.args.change.now) c.args.before.now) ∷ t.log in (
      c.after-after.ensures.changed,
      c.after-after.ensures.is c.requires.is,
      adds_step c.port.inside c.port.invariant c.port.view_is c.requires.memory c.set_aside-found.new.seat
          c.set_aside-found.ensures.same c.set_aside-found.ensures.seated h.0 h.1 t.log log refl t.finds.ram
          (t.finds.goes_on c.port.inside.name h.0 h.1) d.1 (Make c.args.change.now) c.args.before.now refl d.2.0,
    )

pub returns-clause-lost : goal.returns-clause-lost
returns-clause-lost c =
    let t = c.set_aside-found.ensures.told in
    let h = c.set_aside-found.ensures.had in
    let whole =
    sym (new_whole c.port.inside c.port.invariant c.port.view_is c.requires.memory c.set_aside-found.new.seat
    c.set_aside-found.ensures.same c.set_aside-found.ensures.seated h.0 h.1 t.log t.log refl t.finds.ram
    (t.finds.goes_on c.port.inside.name h.0 h.1)
    (t.lost (λ e. c.if-found-word.false (e ∙ sym c.requires.word)))) in (
      t.finds.found_is ∙ ap (λ (log : ChipHistory). packed (controller_at log)) whole,
      subst (λ (log : ChipHistory). IsController (controller_at log)) whole t.finds.is,
      adds_none c.port.inside c.port.invariant c.port.view_is c.requires.memory c.set_aside-found.new.seat
          c.set_aside-found.ensures.same c.set_aside-found.ensures.seated h.0 h.1 t.log t.log refl t.finds.ram
          (t.finds.goes_on c.port.inside.name h.0 h.1)
          (t.lost (λ e. c.if-found-word.false (e ∙ sym c.requires.word))) refl,
    )

pub invariant_of-port-2 : goal.invariant_of-port-2
invariant_of-port-2 c =
    let t = c.set_aside-found.ensures.told in
    let h = c.set_aside-found.ensures.had in
    stepped_after c.port.inside c.port.invariant c.port.view_is c.requires.memory c.set_aside-found.new.seat
    c.set_aside-found.ensures.same c.set_aside-found.ensures.seated h.0 h.1 t.log t.log refl t.finds.ram
    (t.finds.goes_on c.port.inside.name h.0 h.1)
    (t.lost (λ e. c.if-found-word.false (e ∙ sym c.requires.word)))

pub returns-then-found-word-clause-objects : goal.returns-then-found-word-clause-objects
returns-then-found-word-clause-objects c =
    let t = c.set_aside-found.ensures.told in
    let h = c.set_aside-found.ensures.had in
    let log = OfController (step_at c.port.inside.name (Make c.args.change.now) c.args.before.now) ∷ t.log in
    adds_no_event c.port.inside c.port.invariant c.port.view_is c.requires.memory c.set_aside-found.new.seat
    c.set_aside-found.ensures.same c.set_aside-found.ensures.seated h.0 h.1 t.log log refl t.finds.ram
    (t.finds.goes_on c.port.inside.name h.0 h.1) (t.done (c.if-found-word.true ∙ c.requires.word)).1

pub returns-clause-objects : goal.returns-clause-objects
returns-clause-objects c =
    let t = c.set_aside-found.ensures.told in
    let h = c.set_aside-found.ensures.had in
    adds_no_event c.port.inside c.port.invariant c.port.view_is c.requires.memory c.set_aside-found.new.seat
    c.set_aside-found.ensures.same c.set_aside-found.ensures.seated h.0 h.1 t.log t.log refl t.finds.ram
    (t.finds.goes_on c.port.inside.name h.0 h.1)
    (t.lost (λ e. c.if-found-word.false (e ∙ sym c.requires.word)))
