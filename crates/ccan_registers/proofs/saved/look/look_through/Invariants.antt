use Rattle.std.proofs.Common.{◌≡◌, length, take, drop}
use Rattle.std.specs.Prelude.{All}
use Rattle.ccan_object.specs.Record.{zero_record}
use Rattle.ccan_registers.specs.ChipSteps.{ChipGoes}
use Rattle.ccan_registers.specs.Looks.{LooksThrough}
use Rattle.ccan_registers.proofs.saved.look.look_through.Given as goal

-- the looks so far show the records so far, and the others are zero
abbrev pub invariant-loop-k : goal.invariant-loop-k
invariant-loop-k l =
    record {
      goes : ChipGoes l.fn.port l.port (λ terms seen added. LooksThrough terms 1 (take l.k l.records) seen added);
      count : length l.records ≡ 64;
      unused : All (λ r. r ≡ zero_record) (drop l.k l.records);
    }
