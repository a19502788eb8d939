use Rattle.std.proofs.Common.{refl}
use Rattle.ccan_accept.proofs.Places.{bit-and}
use Rattle.ccan_accept.proofs.accept.compared_places.Goals as goal

pub returns-clause-places : goal.returns-clause-places
returns-clause-places c = λ place low.
    let masked = c.masked_places.ensures.places place low in
    let shared = c.places_of.ensures.places place low in
    rw (bit-and c.masked_places.result c.places_of.result place, masked, shared, c.both_extended.ensures) refl
