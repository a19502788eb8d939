use Rattle.std.proofs.Common.{Bool, Some, sym, subst}
use Rattle.ccan_confine.specs.declared.controller_change.ControllerChange.{ControllerChange}
use Rattle.ccan_registers.specs.ChipSteps.{Makes}
use Rattle.ccan_c.specs.BusCall.{LoopsBack}
use Rattle.ccan_c.specs.HostCall.{code_of_access}
use Rattle.ccan_c.specs.Steps.{Steps}
use Rattle.std.proofs.Common.{Ok}
use Rattle.ccan_c.proofs.Looping.{loops}
use Rattle.ccan_c.proofs.held.Held.loop_back.Goals as goal

pub returns-in-Ok : goal.returns-in-Ok
returns-in-Ok c =
    let old = c.args.self.now in
    let mid = c.change-2.new.self in
    let new = c.change-in-Ok.new.self in
    let first = subst (λ (z : ControllerChange). Steps (λ terms seen added. Makes terms z old.chip.settings.tries seen added
    (Ok c.in-Ok.field-0)) old mid) c.testing-2.ensures c.in-Ok.ensures in
    let second = subst (λ (z : ControllerChange). Steps (λ terms seen added. Makes terms z mid.chip.settings.tries seen added
    c.change-in-Ok.result) mid new) c.looping.ensures c.change-in-Ok.ensures in
    subst (λ (on : Bool). Steps (λ terms seen added. LoopsBack terms old.chip.settings.tries on seen added
    (code_of_access (Some c.change-in-Ok.result))) old new) (sym c.if-not-on.false)
    (loops old mid new c.in-Ok.field-0 c.change-in-Ok.result first second)
