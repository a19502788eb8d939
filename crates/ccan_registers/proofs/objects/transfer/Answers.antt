use Rattle.std.proofs.Common.{◌≡◌, ℕ, ap, subst, ◌∙◌}
use Rattle.ccan_object.specs.declared.profile.Profile.{Profile}
use Rattle.ccan_object.specs.Number.{requested}
use Rattle.ccan_ram.specs.SharedRam.{terms_of}
use Rattle.ccan_ram.proofs.Calls.{Goes-weaker}
use Rattle.ccan_line.specs.Transfer.{IsTransfer}
use Rattle.ccan_endless.specs.Layout.{same_object}
use Rattle.ccan_registers.specs.Objects as objects
use Rattle.ccan_registers.proofs.Going.{on_objects}
use Rattle.ccan_registers.proofs.objects.transfer.Goals as goal

pub returns-clause-goes : goal.returns-clause-goes
returns-clause-goes c =
    let port = c.args.chip.now.port in
    let new = c.transferred.new.chip.port in
    let left = c.transferred.new.registers in
    let request = c.args.request in
    let tries = c.args.chip.now.settings.tries in
    let object : c.from_request-object.result ≡ requested port.pass.memory.profile request =
    c.from_request-object.ensures.number ∙ ap (λ (p : Profile). requested p request) c.profile.ensures in
    on_objects port new
    (λ terms s a. IsTransfer terms tries (requested terms.profile request) c.args.registers.now s a
    (objects.as_line c.transferred.result) left)
    c.transferred.ensures.none
    (Goes-weaker c.transferred.ensures.goes
    (λ seen added here after p. subst
    (λ (k : ℕ). IsTransfer (terms_of same_object port.pass.memory port.pass.port) tries k c.args.registers.now seen added
    (objects.as_line c.transferred.result) left) object p))
