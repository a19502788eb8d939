use Rattle.ccan_object.proofs.RoundTrip.{round_trips}
use Rattle.ccan_object.proofs.laws.round_trips.Goals as goal

pub returns : goal.returns
returns c = round_trips
