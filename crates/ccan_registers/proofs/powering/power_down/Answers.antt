use Rattle.std.proofs.Common.{sym, ◌∙◌, subst}
use Rattle.ccan_endless.specs.declared.chip.ControllerStep.TheVariants.{Look}
use Rattle.ccan_chip.specs.declared.port_settings.PortSettings.{PortSettings}
use Rattle.ccan_registers.specs.ChipSteps.{AtController, ChipGoes}
use Rattle.ccan_registers.specs.PowerDown.{PowersDownIdle}
use Rattle.ccan_registers.proofs.Accesses.{on_true}
use Rattle.ccan_registers.proofs.Going.{goes_then, weaker}
use Rattle.ccan_registers.proofs.powering.power_down.Goals as goal

pub returns-then-is_to_power_down-clause-goes : goal.returns-then-is_to_power_down-clause-goes
returns-then-is_to_power_down-clause-goes c =
    let old = c.args.chip.now.port in
    let looked = c.look-found.new.chip.port in
    let last = c.power_down_idle.new.chip.port in
    let found = c.look-found.result in
    let told = c.power_down_idle.result in
    let idle = subst (λ (s : PortSettings). ChipGoes looked last
    (λ terms seen added. PowersDownIdle terms s.tries seen added told))
    c.look-found.ensures.settings c.power_down_idle.ensures.goes in
    weaker old last _ _
    (goes_then old looked last (λ terms seen added. AtController terms.port Look found seen added)
    (λ terms seen added. PowersDownIdle terms c.args.chip.now.settings.tries seen added told) c.look-found.ensures.goes idle)
    (λ seen added h. (
      found,
      record {
        earlier = h.earlier;
        later = h.later;
        whole = h.whole;
        begins = h.begins;
        ends = on_true _ _ _ (sym c.is_to_power_down.ensures ∙ c.if-is_to_power_down.true) h.ends;
      },
    ))
