use Rattle.std.proofs.Common.{ℕ, ◌≡◌, ◌<◌, false}
use Rattle.ccan_wire.specs.Member.{member_at}
use Rattle.ccan_wire.specs.Sign.{shows}
use Rattle.ccan_wire.specs.Winner.{part_of}
use Rattle.ccan_wire.proofs.end.someone.Given as goal

abbrev pub invariant-loop-place : goal.invariant-loop-place
invariant-loop-place l = (k : ℕ) → k < l.place → shows l.sign (part_of l.winner k) (member_at l.members k) ≡ false
