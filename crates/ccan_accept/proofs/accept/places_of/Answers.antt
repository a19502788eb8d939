use Rattle.ccan_accept.proofs.Places.{extended_has, standard_has}
use Rattle.ccan_accept.proofs.accept.places_of.Goals as goal

pub returns-then-xtd-clause-places : goal.returns-then-xtd-clause-places
returns-then-xtd-clause-places c = λ place low. rw c.if-xtd.true (extended_has place low)

pub returns-else-xtd-clause-places : goal.returns-else-xtd-clause-places
returns-else-xtd-clause-places c = λ place low. rw c.if-xtd.false (standard_has place low)
