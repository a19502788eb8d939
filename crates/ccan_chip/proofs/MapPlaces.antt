-- No two registers of a chip share an offset, whatever the layout.
use Rattle.std.proofs.Common.{arith}
use Rattle.ccan_chip.specs.declared.map.Map.TheVariants.{Narrow, Wide, Dcan}
use Rattle.ccan_chip.specs.MapLaws.{RegistersLieApart}
use Rattle.ccan_chip.proofs.NarrowPlaces.{narrow-apart}
use Rattle.ccan_chip.proofs.DcanPlaces.{dcan-apart}

pub apart : RegistersLieApart
apart Narrow profile a b has_a has_b e = narrow-apart profile a b has_a has_b e
apart Wide profile a b has_a has_b e = narrow-apart profile a b has_a has_b (omega arith)
apart Dcan profile a b has_a has_b e = dcan-apart profile a b has_a has_b e
