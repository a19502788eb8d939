use Rattle.ccan_registers.proofs.GoingOn.{on_and_on}
use Rattle.ccan_registers.proofs.saved.follow.write_all.Goals as goal

pub returns-in_err-write : goal.returns-in_err-write
returns-in_err-write c = on_and_on c.args.port.now c.loop-k.port c.write.new.port c.loop-k.invariant c.write.ensures

pub loop-k-preserved : goal.loop-k-preserved
loop-k-preserved c = on_and_on c.args.port.now c.loop-k.port c.write.new.port c.loop-k.invariant c.write.ensures
