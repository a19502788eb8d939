use Rattle.std.proofs.Common.{◌≡◌, map, take, length}
use Rattle.ccan_c.specs.Record.{c_record}
use Rattle.ccan_c.proofs.shown_final.c_records.Given as goal

-- the records so far are shown
abbrev pub invariant-loop-i : goal.invariant-loop-i
invariant-loop-i l =
    record {
      count : length l.shown ≡ 64;
      shown : take l.i l.shown ≡ map c_record (take l.i l.records);
    }
