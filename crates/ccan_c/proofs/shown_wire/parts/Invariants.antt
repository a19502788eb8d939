use Rattle.std.proofs.Common.{ℕ, ◌≡◌, ◌<◌, length}
use Rattle.std.specs.Prelude.{slice_index_or}
use Rattle.ccan_wire.specs.Event.{part_on}
use Rattle.ccan_c.specs.Wire.{part_number}
use Rattle.ccan_c.proofs.shown_wire.parts.Given as goal

-- the parts so far are told
abbrev pub invariant-loop-place : goal.invariant-loop-place
invariant-loop-place l =
    record {
      count : length l.shown ≡ 32;
      told : (k : ℕ) → k < l.place → slice_index_or l.shown k 0 ≡ part_number (part_on l.wire k);
    }
