use Rattle.ccan_wire.proofs.Lone.{unheard}
use Rattle.ccan_wire.proofs.laws.nobody_hears_a_lone_sender.Goals as goal

pub returns : goal.returns
returns c = λ m wire k a lone. unheard m k lone wire a
