use Rattle.ccan_accept.proofs.Places.{bit-extended}
use Rattle.ccan_accept.proofs.accept.masked_places.Goals as goal

pub returns-else-object-clause-places : goal.returns-else-object-clause-places
returns-else-object-clause-places c = λ place low. rw c.if-object.false (bit-extended place low)
