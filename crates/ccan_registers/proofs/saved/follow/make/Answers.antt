use Rattle.ccan_registers.proofs.GoingOn.{after_change}
use Rattle.ccan_registers.proofs.saved.follow.make.Goals as goal

pub returns-in-Ok : goal.returns-in-Ok
returns-in-Ok c =
    let e = c.change_controller.ensures in
    after_change c.args.port.now c.change_controller.new.port c.args.change.now c.change_controller.result e.made e.busy e.objects

pub returns-in-Err : goal.returns-in-Err
returns-in-Err c =
    let e = c.change_controller.ensures in
    after_change c.args.port.now c.change_controller.new.port c.args.change.now c.change_controller.result e.made e.busy e.objects
