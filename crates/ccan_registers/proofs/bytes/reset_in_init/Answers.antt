use Rattle.std.proofs.Common.{refl, subst}
use Rattle.ccan_confine.specs.declared.controller_change.ControllerChange.TheVariants.{ResetDcan}
use Rattle.ccan_endless.specs.declared.chip.ControllerStep.TheVariants.{Look}
use Rattle.ccan_chip.specs.declared.port_settings.PortSettings.{PortSettings}
use Rattle.ccan_registers.specs.ChipSteps.{AtController, ChipGoes}
use Rattle.ccan_registers.specs.Resetting.{ResetsChip}
use Rattle.ccan_registers.proofs.Accesses.{on_true}
use Rattle.ccan_registers.proofs.Going.{goes_then, weaker}
use Rattle.ccan_registers.proofs.bytes.reset_in_init.Goals as goal

pub returns-then-found-clause-goes : goal.returns-then-found-clause-goes
returns-then-found-clause-goes c =
    let found = c.look-found.result in
    let looked = c.look-found.new.chip.port in
    let last = c.reset.new.chip.port in
    let resets = subst (λ (s : PortSettings). ChipGoes looked last
    (λ terms seen added. ResetsChip terms ResetDcan s.tries seen added c.reset.result))
    c.look-found.ensures.settings c.reset.ensures.goes in
    weaker c.args.chip.now.port last _ _
    (goes_then c.args.chip.now.port looked last (λ terms seen added. AtController terms.port Look found seen added)
    (λ terms seen added. ResetsChip terms ResetDcan c.args.chip.now.settings.tries seen added c.reset.result) c.look-found.ensures.goes
    resets)
    (λ seen added h. record {
      found = found;
      steps = record {
        earlier = h.earlier;
        later = h.later;
        whole = h.whole;
        begins = h.begins;
        ends = on_true _ _ _ c.if-found.true (record { resets = h.ends; left_is = refl });
      };
    })
