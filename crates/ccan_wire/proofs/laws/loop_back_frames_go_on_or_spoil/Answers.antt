use Rattle.ccan_wire.proofs.LoopBack.{goes_on_or_spoils}
use Rattle.ccan_wire.proofs.laws.loop_back_frames_go_on_or_spoil.Goals as goal

pub returns : goal.returns
returns c = goes_on_or_spoils
