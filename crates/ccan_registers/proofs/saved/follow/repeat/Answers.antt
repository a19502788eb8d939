use Rattle.ccan_registers.proofs.GoingOn.{on_and_on}
use Rattle.ccan_registers.proofs.saved.follow.repeat.Goals as goal

pub returns-in_err-make : goal.returns-in_err-make
returns-in_err-make c = on_and_on c.args.port.now c.loop-turn.port c.make.new.port c.loop-turn.invariant c.make.ensures

pub loop-turn-preserved : goal.loop-turn-preserved
loop-turn-preserved c = on_and_on c.args.port.now c.loop-turn.port c.make.new.port c.loop-turn.invariant c.make.ensures
