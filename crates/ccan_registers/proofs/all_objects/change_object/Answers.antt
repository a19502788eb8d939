use Rattle.std.proofs.Common.{Err, sym, ap, ◌∙◌}
use Rattle.ccan_registers.specs.Dcan.{change_told}
use Rattle.ccan_registers.proofs.Changing.{object_changed}
use Rattle.ccan_registers.proofs.all_objects.change_object.Goals as goal

pub returns-in-Ok-clause-goes : goal.returns-in-Ok-clause-goes
returns-in-Ok-clause-goes c =
    object_changed c.args.chip.now.port c.change.new.self.port c.args.change.now c.args.tries c.args.object c.change.result _
    (sym (ap change_told c.in-Ok.is)) c.change.ensures.chip c.change.ensures.attempts

pub returns-in-Err-Busy-clause-goes : goal.returns-in-Err-Busy-clause-goes
returns-in-Err-Busy-clause-goes c =
    object_changed c.args.chip.now.port c.change.new.self.port c.args.change.now c.args.tries c.args.object c.change.result _
    (sym (ap change_told (c.in-Err-Busy.is ∙ ap Err c.in-Err-Busy.field-0-is))) c.change.ensures.chip c.change.ensures.attempts

pub returns-in-Err-Spent-clause-goes : goal.returns-in-Err-Spent-clause-goes
returns-in-Err-Spent-clause-goes c =
    object_changed c.args.chip.now.port c.change.new.self.port c.args.change.now c.args.tries c.args.object c.change.result _
    (sym (ap change_told (c.in-Err-Spent.is ∙ ap Err c.in-Err-Spent.field-0-is))) c.change.ensures.chip c.change.ensures.attempts
