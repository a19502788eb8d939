use Rattle.std.proofs.Common.{◌≡◌, arith}
use Rattle.std.proofs.lemmas.Grind.{common_steps}
use Rattle.ccan_accept.specs.Accept.{accepts}
use Rattle.ccan_accept.proofs.Acceptance.{accepts-decides}
use Rattle.ccan_accept.proofs.accept.accepts.Goals as goal

tested : (c : goal.After-agrees_in_places) → c.agrees_in_places.result ≡ accepts c.args.object.now c.args.frame.now
unfolding accepts
tested c = grind (arith, common_steps)

pub returns-then-agrees_in_kind-clause-places : goal.returns-then-agrees_in_kind-clause-places
returns-then-agrees_in_kind-clause-places c = rw tested (accepts-decides c.args.object.now c.args.frame.now)
