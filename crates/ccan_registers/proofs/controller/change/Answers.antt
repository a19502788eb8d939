use Rattle.ccan_registers.proofs.Going.{changes_of}
use Rattle.ccan_registers.proofs.controller.change.Goals as goal

pub returns-clause-goes : goal.returns-clause-goes
returns-clause-goes c =
    let e = c.change_controller.ensures in
    changes_of c.args.chip.now.port c.change_controller.new.self.port c.args.change.now c.args.tries c.change_controller.result
    e.made e.after e.busy e.lost e.objects
