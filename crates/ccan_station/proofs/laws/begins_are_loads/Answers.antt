use Rattle.ccan_station.proofs.Loading.{begins_as_load}
use Rattle.ccan_station.proofs.laws.begins_are_loads.Goals as goal

pub returns : goal.returns
returns c = begins_as_load
