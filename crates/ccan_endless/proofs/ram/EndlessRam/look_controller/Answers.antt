-- The look's step on the words tells which history of the chip the port has seen by now, and the lemmas on `ControllerCalls`
-- say what that adds to the port: one look, and no event at the objects.
use Rattle.std.proofs.Common.{◌≡◌, ◌∷◌, sym, refl, subst}
use Rattle.ccan_confine.specs.declared.controller.Controller.{Controller}
use Rattle.ccan_confine.specs.Controller.{IsController}
use Rattle.ccan_endless.specs.Chip.{controller_at, step_at}
use Rattle.ccan_endless.specs.ChipPort.{AddsController}
use Rattle.ccan_endless.specs.declared.chip.ChipEvent.TheVariants.{OfController}
use Rattle.ccan_endless.specs.declared.chip.ControllerStep.TheVariants.{Look}
use Rattle.ccan_endless.proofs.Ports.{chip_pass, with_seat}
use Rattle.ccan_endless.proofs.Seats.{only_holds}
use Rattle.ccan_endless.proofs.ControllerCalls.{stepped_after, adds_no_event, adds_step}
use Rattle.ccan_endless.proofs.ram.EndlessRam.look_controller.Goals as goal

pub look_aside-requires-clause-held : goal.look_aside-requires-clause-held
look_aside-requires-clause-held c =
    let i = c.port.invariant in (i.held, only_holds c.port.inside.name i.held c.port.inside.seat.me i.view)

pub invariant_of-port : goal.invariant_of-port
invariant_of-port c =
    let t = c.look_aside.ensures.told in
    let h = c.look_aside.ensures.had in
    stepped_after c.port.inside c.port.invariant c.port.view_is c.requires.memory c.look_aside.new.seat
    c.look_aside.ensures.same c.look_aside.ensures.seated
    h.0 h.1 t.log (OfController (step_at c.port.inside.name Look (controller_at t.log)) ∷ t.log) refl t.finds.ram
    (t.finds.goes_on c.port.inside.name h.0 h.1) t.view

pub returns-clause-looks : goal.returns-clause-looks
returns-clause-looks c =
    let t = c.look_aside.ensures.told in
    let h = c.look_aside.ensures.had in
    let shown : c.unpack.result ≡ controller_at t.log =
    c.unpack.ensures (controller_at t.log) t.finds.is (sym t.finds.found_is) in
    subst (λ (k : Controller). AddsController c.args.port.now (chip_pass (with_seat c.port.inside c.look_aside.new.seat)) Look k)
    (sym shown)
    (adds_step c.port.inside c.port.invariant c.port.view_is c.requires.memory c.look_aside.new.seat
    c.look_aside.ensures.same c.look_aside.ensures.seated
    h.0 h.1 t.log (OfController (step_at c.port.inside.name Look (controller_at t.log)) ∷ t.log) refl t.finds.ram
    (t.finds.goes_on c.port.inside.name h.0 h.1) t.view Look (controller_at t.log) refl t.legal.0)

pub returns-clause-is : goal.returns-clause-is
returns-clause-is c =
    let t = c.look_aside.ensures.told in
    subst IsController (sym (c.unpack.ensures (controller_at t.log) t.finds.is (sym t.finds.found_is))) t.finds.is

pub returns-clause-objects : goal.returns-clause-objects
returns-clause-objects c =
    let t = c.look_aside.ensures.told in
    let h = c.look_aside.ensures.had in
    adds_no_event c.port.inside c.port.invariant c.port.view_is c.requires.memory c.look_aside.new.seat
    c.look_aside.ensures.same c.look_aside.ensures.seated h.0 h.1 t.log
    (OfController (step_at c.port.inside.name Look (controller_at t.log)) ∷ t.log) refl t.finds.ram
    (t.finds.goes_on c.port.inside.name h.0 h.1) t.view
