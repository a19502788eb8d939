use Rattle.ccan_station.proofs.Leaving.{no_event}
use Rattle.ccan_station.proofs.laws.who_left_has_no_event.Goals as goal

pub returns : goal.returns
returns c = no_event
