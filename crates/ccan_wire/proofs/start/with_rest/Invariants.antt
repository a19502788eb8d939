use Rattle.std.proofs.Common.{ℕ, ◌≡◌, ◌==◌, ◌&&◌, length}
use Rattle.std.specs.Prelude.{nat_lt}
use Rattle.ccan_wire.specs.Member.{member_at}
use Rattle.ccan_wire.specs.Packed.{rest_by}
use Rattle.ccan_wire.specs.Winner.{is_among}
use Rattle.ccan_wire.proofs.start.with_rest.Given as goal

abbrev pub invariant-loop-place : goal.invariant-loop-place
invariant-loop-place l =
    record {
      all : length l.those ≡ 32;
      so_far : (k : ℕ) → is_among l.those k
          ≡ (nat_lt k l.place && (is_among l.who k && rest_by (member_at l.members k) == l.number));
    }
