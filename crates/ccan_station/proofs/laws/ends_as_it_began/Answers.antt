use Rattle.ccan_station.proofs.Loading.{ends_as_begun}
use Rattle.ccan_station.proofs.laws.ends_as_it_began.Goals as goal

pub returns : goal.returns
returns c = ends_as_begun
