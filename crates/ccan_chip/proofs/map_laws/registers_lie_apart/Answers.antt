use Rattle.ccan_chip.proofs.MapPlaces.{apart}
use Rattle.ccan_chip.proofs.map_laws.registers_lie_apart.Goals as goal

pub returns : goal.returns
returns c = apart
