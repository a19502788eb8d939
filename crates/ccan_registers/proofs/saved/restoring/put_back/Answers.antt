use Rattle.std.proofs.Common.{◌≡◌, arith, List, subst, ◌∙◌, ap}
use Rattle.std.specs.Prelude.{IsTrue}
use Rattle.std.proofs.lemmas.Grind.{common_steps}
use Rattle.ccan_object.specs.declared.record.Record.{Record}
use Rattle.ccan_ram.specs.SharedRam.{Memory}
use Rattle.ccan_registers.specs.ChipSteps.{ChipGoes}
use Rattle.ccan_registers.specs.Looks.{LooksAtAll}
use Rattle.ccan_registers.proofs.Going.{goes_then, weaker}
use Rattle.ccan_registers.proofs.GoingOn.{some_steps, on_and_on}
use Rattle.ccan_registers.proofs.saved.restoring.put_back.Goals as goal

pub returns-then-is_as_saved-clause-goes : goal.returns-then-is_as_saved-clause-goes
returns-then-is_as_saved-clause-goes c =
    let port = c.args.port.now in
    let led = c.lead.new.port in
    let last = c.look_at_all-controller.new.port in
    let saved = c.args.saved.now in
    let found = c.look_at_all-controller.result.0 in
    let passed : IsTrue c.is_as_saved.result = c.if-is_as_saved.true in
    let looks =
    subst
    (λ (rs : List Record). ChipGoes led last (λ terms seen added. LooksAtAll terms found rs seen added))
    (c.is_as_saved.ensures.records passed) c.look_at_all-controller.ensures.goes in
    let profile : port.pass.memory.profile ≡ saved.profile =
    ap (λ (m : Memory). m.profile) c.requires.memory ∙ grind (arith, common_steps) in
    weaker port last _ _
    (goes_then port led last (λ terms seen added. Unit {0})
    (λ terms seen added. LooksAtAll terms found saved.records seen added) c.lead.ensures looks)
    (λ seen added h. (profile, (found, c.is_as_saved.ensures.controller passed, h)))

pub returns-else-is_as_saved-clause-goes : goal.returns-else-is_as_saved-clause-goes
returns-else-is_as_saved-clause-goes c =
    let led = c.lead.new.port in
    let last = c.look_at_all-controller.new.port in
    on_and_on c.args.port.now led last c.lead.ensures (some_steps led last _ c.look_at_all-controller.ensures.goes)
