use Rattle.ccan_object.specs.Profile.{Holds}
use Rattle.test_speed.proofs.rivals.write_in_turn.Given as goal

-- the object stays one of the memory's
abbrev pub invariant-loop : goal.invariant-loop
invariant-loop g l = Holds (g.A.Access.passes l.access).terms.profile l.object
