use Rattle.std.proofs.Common.{refl, subst}
use Rattle.ccan_confine.specs.declared.controller_change.ControllerChange.{ControllerChange}
use Rattle.ccan_registers.specs.ChipSteps.{Makes}
use Rattle.ccan_c.specs.BusCall as bus_call
use Rattle.ccan_c.specs.Steps.{Steps}
use Rattle.ccan_c.proofs.Calls.{bus_looked, on_open}
use Rattle.ccan_c.proofs.bus.ccan_control.Goals as goal

pub returns : goal.returns
returns c =
    let run = c.change-told in
    let held = c.as_mut.result.now in
    let made = subst (λ (z : ControllerChange). Steps (λ terms seen added. Makes terms z held.chip.settings.tries seen added run.result) held
    run.new.self) c.enabling.ensures run.ensures in
    on_open _ _ _ _ _ c.as_mut.ensures.value
    (bus_looked (bus_call.control c.args.sie c.args.eie c.code_of_access.result) held run.new.self _ made
    refl (λ past seen added led h. ((run.result, h, c.code_of_access.ensures), refl)))
