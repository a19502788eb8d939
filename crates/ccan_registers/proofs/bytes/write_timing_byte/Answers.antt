use Rattle.std.proofs.Common.{ℕ, ap, subst, ◌∙◌}
use Rattle.ccan_chip.specs.declared.register.Register.TheVariants.{BitTiming}
use Rattle.ccan_endless.specs.declared.chip.ControllerStep.TheVariants.{Look}
use Rattle.ccan_chip.specs.declared.port_settings.PortSettings.{PortSettings}
use Rattle.ccan_registers.specs.Bytes.{with_byte}
use Rattle.ccan_registers.specs.ChipSteps.{AtController, ChipGoes}
use Rattle.ccan_registers.specs.Register.{Writes}
use Rattle.ccan_registers.proofs.Going.{goes_then, weaker}
use Rattle.ccan_registers.proofs.bytes.write_timing_byte.Goals as goal

pub returns-clause-goes : goal.returns-clause-goes
returns-clause-goes c =
    let found = c.look-found.result in
    let looked = c.look-found.new.chip.port in
    let last = c.write.new.chip.port in
    let word = c.set-word.ensures ∙ ap (λ (w : ℕ). with_byte c.args.byte c.args.value w) c.register.ensures.value in
    let writes = subst (λ (u : ℕ × PortSettings). ChipGoes looked last (λ terms seen added. Writes terms u.1.tries u.1.map BitTiming u.0
    c.args.own.now seen added c.write.result c.write.new.own))
    (λ i. (word i, c.look-found.ensures.settings i)) c.write.ensures.goes in
    weaker c.args.chip.now.port last _ _
    (goes_then c.args.chip.now.port looked last (λ terms seen added. AtController terms.port Look found seen added)
    (λ terms seen added. Writes terms c.args.chip.now.settings.tries c.args.chip.now.settings.map BitTiming
    (with_byte c.args.byte c.args.value found.timing.register) c.args.own.now seen added c.write.result c.write.new.own)
    c.look-found.ensures.goes writes)
    (λ seen added h. record { found = found; steps = h })
