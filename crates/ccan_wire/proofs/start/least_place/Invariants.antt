use Rattle.ccan_wire.specs.Member.{member_at}
use Rattle.ccan_wire.specs.Packed.{IsLeast, key_of}
use Rattle.ccan_wire.proofs.start.least_place.Given as goal

abbrev pub invariant-loop-place : goal.invariant-loop-place
invariant-loop-place l = IsLeast (λ k. key_of (member_at l.members k)) l.place l.least
