use Rattle.ccan_registers.proofs.GoingOn.{on_and_on}
use Rattle.ccan_registers.proofs.saved.follow.follow.Goals as goal

pub returns-in_err-repeat : goal.returns-in_err-repeat
returns-in_err-repeat c = on_and_on c.args.port.now c.loop-step.port c.repeat.new.port c.loop-step.invariant c.repeat.ensures

pub loop-step-preserved : goal.loop-step-preserved
loop-step-preserved c = on_and_on c.args.port.now c.loop-step.port c.repeat.new.port c.loop-step.invariant c.repeat.ensures
