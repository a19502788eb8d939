use Rattle.ccan_wire.proofs.Heard.{heard}
use Rattle.ccan_wire.proofs.laws.sent_is_heard.Goals as goal

pub returns : goal.returns
returns c = heard
