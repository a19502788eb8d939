use Rattle.std.proofs.Common.{◌≡◌, ◌*◌, length, take}
use Rattle.std.specs.List.{flat_map}
use Rattle.ccan_object.specs.Packing.{packed}
use Rattle.ccan_registers.proofs.saved.words.object_words.Given as goal

-- the words so far are those of the objects so far
abbrev pub invariant-loop-k : goal.invariant-loop-k
invariant-loop-k l =
    record {
      count : length l.words ≡ 192;
      text : take (3 * l.k) l.words ≡ flat_map packed (take l.k l.records);
    }
