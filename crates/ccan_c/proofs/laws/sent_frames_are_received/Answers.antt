use Rattle.ccan_c.proofs.SharedFrames.{sent_is_received}
use Rattle.ccan_c.proofs.laws.sent_frames_are_received.Goals as goal

pub returns : goal.returns
returns c = sent_is_received
