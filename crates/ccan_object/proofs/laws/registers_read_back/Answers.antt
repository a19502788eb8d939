use Rattle.ccan_object.proofs.ReadBack.{read_back}
use Rattle.ccan_object.proofs.laws.registers_read_back.Goals as goal

pub returns : goal.returns
returns c = read_back
