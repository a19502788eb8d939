use Rattle.ccan_wire.proofs.Heard.{one_is_sent}
use Rattle.ccan_wire.proofs.laws.at_most_one_frame_is_sent.Goals as goal

pub returns : goal.returns
returns c = one_is_sent
