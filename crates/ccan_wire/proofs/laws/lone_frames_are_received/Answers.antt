use Rattle.ccan_wire.proofs.LoopBack.{received_by}
use Rattle.ccan_wire.proofs.laws.lone_frames_are_received.Goals as goal

pub returns : goal.returns
returns c = λ m wire j k a lone other takes hearing. received_by m k lone wire j a other takes hearing
