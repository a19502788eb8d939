use Rattle.std.proofs.Common.{Bool, subst}
use Rattle.ccan_endless.specs.declared.chip.ControllerStep.TheVariants.{Look}
use Rattle.ccan_registers.specs.ChipSteps.{AtController, ChipGoes}
use Rattle.ccan_registers.specs.Objects.{ShowsInterrupt}
use Rattle.ccan_registers.proofs.Going.{goes_then, weaker}
use Rattle.ccan_registers.proofs.registers.interrupt_value.Goals as goal

pub returns-clause-goes : goal.returns-clause-goes
returns-clause-goes c =
    let found = c.look-found.result in
    let looked = c.look-found.new.chip.port in
    let last = c.interrupt-value.new.chip.port in
    let value = c.interrupt-value.result in
    let shows = subst (λ (b : Bool). ChipGoes looked last (λ terms seen added. ShowsInterrupt terms b seen added value))
    c.shows_status_interrupt.ensures c.interrupt-value.ensures.goes in
    weaker c.args.chip.now.port last _ _
    (goes_then c.args.chip.now.port looked last (λ terms seen added. AtController terms.port Look found seen added)
    (λ terms seen added. ShowsInterrupt terms _ seen added value) c.look-found.ensures.goes shows)
    (λ seen added h. record { steps = h })
