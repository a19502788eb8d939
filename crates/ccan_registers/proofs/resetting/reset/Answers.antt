use Rattle.std.proofs.Common.{inr, subst}
use Rattle.std.specs.Prelude.{Result, Ok}
use Rattle.ccan_ram.specs.declared.change.Change.TheVariants.{Reset}
use Rattle.ccan_registers.specs.declared.access_error.AccessError.{AccessError}
use Rattle.ccan_registers.specs.AllObjects.{ChangesObjects}
use Rattle.ccan_registers.specs.ChipSteps.{ChipGoes, Makes}
use Rattle.ccan_registers.proofs.Going.{goes_then, weaker}
use Rattle.ccan_registers.proofs.resetting.reset.Goals as goal

pub returns-clause-goes : goal.returns-clause-goes
returns-clause-goes c =
    let old = c.args.chip.now.port in
    let between = c.write_controller.new.chip.port in
    let new = c.change_objects.new.chip.port in
    let tries = c.args.chip.now.settings.tries in
    let made = subst (λ (told : Result (Unit {0}) AccessError). ChipGoes old between
    (λ terms seen added. Makes terms c.args.change.now tries seen added told)) c.in_default.is c.write_controller.ensures.goes in
    weaker old new _ _
    (goes_then old between new (λ terms seen added. Makes terms c.args.change.now tries seen added (Ok tt))
    (λ terms seen added. ChangesObjects terms Reset tries seen added c.change_objects.result) made c.change_objects.ensures.goes)
    (λ seen added h. inr h)
