use Rattle.std.proofs.Common.{◌≡◌, ◌*◌, length, take}
use Rattle.std.specs.List.{flat_map}
use Rattle.std.specs.Prelude.{All}
use Rattle.ccan_object.specs.Packing.{packed}
use Rattle.ccan_object.specs.Record.{IsRecord}
use Rattle.ccan_registers.proofs.saved.objects.each_in.Given as goal

-- the records so far have the words so far
abbrev pub invariant-loop-k : goal.invariant-loop-k
invariant-loop-k l =
    record {
      count : length l.records ≡ 64;
      each : All IsRecord (take l.k l.records);
      text : flat_map packed (take l.k l.records) ≡ take (3 * l.k) l.words;
    }
