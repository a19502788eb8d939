use Rattle.std.proofs.Common.{◌≡◌, length}
use Rattle.ccan_ram.specs.Array.{passes_of}
use Rattle.ccan_explain.proofs.StepRecords.{LeavesBelow}
use Rattle.ccan_explain.proofs.stepping.all_records.Given as goal

-- the records of the objects below the number
abbrev pub invariant-loop-number : goal.invariant-loop-number
invariant-loop-number l =
    let ram = l.ram in
    record {
      size : length l.records ≡ 65;
      below : LeavesBelow (passes_of ram.profile ram.records ram.used ram.port ram.quota) l.number l.records;
    }
