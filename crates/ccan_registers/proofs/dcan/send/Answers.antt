use Rattle.std.proofs.Common.{Err, Ok, sym, ap, subst, ◌∙◌}
use Rattle.std.specs.Prelude.{Result}
use Rattle.ccan_object.specs.declared.command.CommandMask.{CommandMask}
use Rattle.ccan_object.specs.declared.record.Record.{Record}
use Rattle.ccan_object.specs.Interface.{filled}
use Rattle.ccan_ram.specs.declared.change.Change.TheVariants.{Send}
use Rattle.ccan_ram.specs.declared.change.Changed.{Changed}
use Rattle.ccan_ram.specs.declared.change.Refused.{Refused}
use Rattle.ccan_ram.specs.Access.{Goes}
use Rattle.ccan_ram.specs.Attempt.{Attempt}
use Rattle.ccan_ram.specs.SharedRam.{passes_of}
use Rattle.ccan_endless.specs.Layout.{same_object}
use Rattle.ccan_registers.specs.Dcan.{change_told, sent_from}
use Rattle.ccan_registers.proofs.Sending.{object_sent}
use Rattle.ccan_registers.proofs.dcan.send.Goals as goal

pub returns-in-Ok-Done-clause-goes : goal.returns-in-Ok-Done-clause-goes
returns-in-Ok-Done-clause-goes c =
    let own = c.args.own.now in
    let object = c.args.object in
    let after = c.in-Ok-Done.after in
    let outcome = c.in-Ok-Done.is ∙ ap Ok c.in-Ok-Done.field-0-is in
    let registers = c.fill.ensures ∙ ap (λ (k : CommandMask). filled k after own.registers) c.command-command.ensures in
    let asked = c.from-own.ensures ∙ c.get.ensures.number in
    object_sent c.args.chip.now.port c.change.new.self.port c.args.tries object own _ c.change.result _
    (sym (ap change_told outcome))
    ((λ i. record { registers = registers i; asked = asked i })
    ∙ sym (ap (λ (o : Result Changed Refused). record (sent_from o own) { asked = object }) outcome))
    c.change.ensures.chip
    (subst (λ (u : CommandMask × Record). Goes (passes_of same_object c.args.chip.now.port.pass)
    (passes_of same_object c.change.new.self.port.pass)
    (λ terms seen added. Attempt terms object (Send u.0 u.1) c.args.tries seen added c.change.result))
    (λ i. (c.command-command.ensures i, c.buffer.ensures i)) c.change.ensures.attempts)

pub returns-in-Err-Busy-clause-goes : goal.returns-in-Err-Busy-clause-goes
returns-in-Err-Busy-clause-goes c =
    let own = c.args.own.now in
    let object = c.args.object in
    let outcome = c.in-Err-Busy.is ∙ ap Err c.in-Err-Busy.field-0-is in
    let asked = c.from-own.ensures ∙ c.get.ensures.number in
    object_sent c.args.chip.now.port c.change.new.self.port c.args.tries object own _ c.change.result _
    (sym (ap change_told outcome))
    ((λ i. record own { asked = asked i })
    ∙ sym (ap (λ (o : Result Changed Refused). record (sent_from o own) { asked = object }) outcome))
    c.change.ensures.chip
    (subst (λ (u : CommandMask × Record). Goes (passes_of same_object c.args.chip.now.port.pass)
    (passes_of same_object c.change.new.self.port.pass)
    (λ terms seen added. Attempt terms object (Send u.0 u.1) c.args.tries seen added c.change.result))
    (λ i. (c.command-command.ensures i, c.buffer.ensures i)) c.change.ensures.attempts)

pub returns-in-Err-Spent-clause-goes : goal.returns-in-Err-Spent-clause-goes
returns-in-Err-Spent-clause-goes c =
    let own = c.args.own.now in
    let object = c.args.object in
    let outcome = c.in-Err-Spent.is ∙ ap Err c.in-Err-Spent.field-0-is in
    let asked = c.from-own.ensures ∙ c.get.ensures.number in
    object_sent c.args.chip.now.port c.change.new.self.port c.args.tries object own _ c.change.result _
    (sym (ap change_told outcome))
    ((λ i. record own { asked = asked i })
    ∙ sym (ap (λ (o : Result Changed Refused). record (sent_from o own) { asked = object }) outcome))
    c.change.ensures.chip
    (subst (λ (u : CommandMask × Record). Goes (passes_of same_object c.args.chip.now.port.pass)
    (passes_of same_object c.change.new.self.port.pass)
    (λ terms seen added. Attempt terms object (Send u.0 u.1) c.args.tries seen added c.change.result))
    (λ i. (c.command-command.ensures i, c.buffer.ensures i)) c.change.ensures.attempts)
