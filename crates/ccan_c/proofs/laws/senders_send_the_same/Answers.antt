use Rattle.ccan_c.proofs.SharedFrames.{senders_send_the_same}
use Rattle.ccan_c.proofs.laws.senders_send_the_same.Goals as goal

pub returns : goal.returns
returns c = senders_send_the_same
