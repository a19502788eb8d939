use Rattle.std.proofs.Common.{◌++◌, sym, subst, take}
use Rattle.ccan_object.specs.Profile.{objects_in}
use Rattle.ccan_ram.specs.SharedRam.{Memory}
use Rattle.ccan_endless.specs.declared.chip.ControllerStep.TheVariants.{Look}
use Rattle.ccan_registers.specs.ChipSteps.{AtController, terms_at}
use Rattle.ccan_registers.specs.Looks.{LooksThrough}
use Rattle.ccan_registers.proofs.Going.{goes_then, weaker}
use Rattle.ccan_registers.proofs.saved.look.look_at_all.Goals as goal

pub returns-clause-goes : goal.returns-clause-goes
returns-clause-goes c =
    let port = c.args.port.now in
    let found = c.look_controller-controller.result in
    let records = c.look_through-records.result in
    let looked = c.look_controller-controller.new.port in
    let last = c.look_through-records.new.port in
    weaker port last _ _
    (goes_then port looked last (λ terms seen added. AtController terms.port Look found seen added)
    (λ terms seen added. LooksThrough terms 1 (take (objects_in c.args.ram.now.words.profile) records) seen added)
    c.look_controller-controller.ensures.goes c.look_through-records.ensures.goes)
    (λ seen added h. record {
      earlier = h.earlier;
      later = h.later;
      whole = h.whole;
      begins = h.begins;
      ends =
          subst
          (λ (m : Memory). LooksThrough (terms_at port) 1 (take (objects_in m.profile) records) (h.earlier ++ seen) h.later)
          (sym c.requires) h.ends;
    })
