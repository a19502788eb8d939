use Rattle.std.proofs.Common.{ℕ, ◌≡◌, ◌&&◌, not, length}
use Rattle.std.specs.Prelude.{nat_lt}
use Rattle.ccan_wire.specs.Winner.{is_among}
use Rattle.ccan_wire.proofs.start.except.Given as goal

abbrev pub invariant-loop-place : goal.invariant-loop-place
invariant-loop-place l =
    record {
      all : length l.others ≡ 32;
      so_far : (k : ℕ) → is_among l.others k ≡ (nat_lt k l.place && (is_among l.who k && not (is_among l.those k)));
    }
