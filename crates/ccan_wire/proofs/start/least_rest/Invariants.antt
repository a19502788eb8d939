use Rattle.std.proofs.Common.{◌<◌, length}
use Rattle.ccan_wire.specs.Member.{member_at}
use Rattle.ccan_wire.specs.Packed.{IsLeastAmong, rest_by}
use Rattle.ccan_wire.proofs.start.least_rest.Given as goal

abbrev pub invariant-loop-place : goal.invariant-loop-place
invariant-loop-place l =
    record {
      within : l.least < length l.members;
      least : IsLeastAmong (λ k. rest_by (member_at l.members k)) l.who l.place l.least;
    }
