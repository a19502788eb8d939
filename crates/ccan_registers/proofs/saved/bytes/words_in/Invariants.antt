use Rattle.std.proofs.Common.{ℕ, ◌≡◌, ◌<◌, ◌*◌, length, take, drop}
use Rattle.std.specs.Prelude.{slice_index}
use Rattle.std.specs.Int.{from_le_bytes, w64}
use Rattle.ccan_registers.specs.Format.{bytes_in}
use Rattle.ccan_registers.proofs.saved.bytes.words_in.Given as goal

-- the words so far have the bytes so far
abbrev pub invariant-loop-k : goal.invariant-loop-k
invariant-loop-k l =
    record {
      count : length l.words ≡ 209;
      text : bytes_in (take l.k l.words) ≡ take (8 * l.k) l.bytes;
      each : (j : ℕ) → j < l.k → slice_index l.words j ≡ from_le_bytes w64 (take 8 (drop (8 * j) l.bytes));
    }
