use Rattle.std.proofs.Common.{◌≡◌, length}
use Rattle.std.specs.Slots.{slots_items}
use Rattle.ccan_ram.specs.History.{History}
use Rattle.ccan_words.specs.Rule.{Settles}
use Rattle.ccan_ram.proofs.FinalRecords.{AreListed}
use Rattle.ccan_words.proofs.ending.last_records.Given as goal

-- the records so far are the objects', and the others are zero
abbrev pub invariant-loop-i : goal.invariant-loop-i
invariant-loop-i g l =
    record {
      count : length l.records ≡ 64;
      listed : (log : History) → Settles (g.L.Layout.form l.profile) (slots_items l.closed.words) log
          → AreListed l.i log l.records;
    }
