use Rattle.std.proofs.Common.{ℕ, ◌≡◌, ◌==◌, ◌&&◌, length}
use Rattle.std.specs.Prelude.{nat_lt}
use Rattle.ccan_wire.specs.Member.{member_at}
use Rattle.ccan_wire.specs.Packed.{key_of}
use Rattle.ccan_wire.specs.Winner.{is_among}
use Rattle.ccan_wire.proofs.start.holders.Given as goal

abbrev pub invariant-loop-place : goal.invariant-loop-place
invariant-loop-place l =
    record {
      all : length l.who ≡ 32;
      so_far : (k : ℕ) → is_among l.who k ≡ (nat_lt k l.place && key_of (member_at l.members k) == l.number);
    }
