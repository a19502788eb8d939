use Rattle.ccan_registers.proofs.GoingOn.{on_and_on}
use Rattle.ccan_registers.proofs.saved.restoring.lead.Goals as goal

pub returns : goal.returns
returns c = on_and_on c.args.port.now c.write_all.new.port c.follow.new.port c.write_all.ensures c.follow.ensures
