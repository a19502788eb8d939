use Rattle.std.proofs.Common.{ℕ, ◌<◌}
use Rattle.ccan_wire.specs.Member.{member_at}
use Rattle.ccan_wire.specs.Packed.{Agrees}
use Rattle.ccan_wire.specs.Winner.{is_among}
use Rattle.ccan_wire.proofs.start.dissenter.Given as goal

abbrev pub invariant-loop-place : goal.invariant-loop-place
invariant-loop-place l =
    (k : ℕ) → k < l.place → Agrees (is_among l.who k) (member_at l.members k) l.frame
