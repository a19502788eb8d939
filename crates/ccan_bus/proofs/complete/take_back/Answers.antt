use Rattle.ccan_bus.proofs.Completes.{back_stopped, back_scanned}
use Rattle.ccan_bus.proofs.complete.take_back.Goals as goal

pub returns-in-Ok : goal.returns-in-Ok
returns-in-Ok g c =
    back_scanned c.args.sending c.args.tries c.args.object c.args.frame.now c.in-Ok.finished c.receive.result _
    c.end_of_loop.ensures c.in-Ok.ensures c.receive.ensures.adds

pub returns-in-Err : goal.returns-in-Err
returns-in-Err g c =
    back_stopped c.args.sending c.args.tries c.args.object c.args.frame.now c.in-Err.why _ c.refused_at.ensures c.in-Err.ensures
