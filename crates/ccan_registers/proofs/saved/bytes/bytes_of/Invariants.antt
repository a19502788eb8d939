use Rattle.std.proofs.Common.{◌≡◌, ◌*◌, length, take}
use Rattle.ccan_registers.specs.Format.{bytes_in}
use Rattle.ccan_registers.proofs.saved.bytes.bytes_of.Given as goal

-- the bytes so far are those of the words so far
abbrev pub invariant-loop-k : goal.invariant-loop-k
invariant-loop-k l =
    record {
      count : length l.bytes ≡ 1672;
      text : take (8 * l.k) l.bytes ≡ bytes_in (take l.k l.words);
    }
