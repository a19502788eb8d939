use Rattle.std.proofs.Common.{◌≡◌, length}
use Rattle.ccan_endless.specs.Picture.{CollectedIn}
use Rattle.ccan_endless.specs.Seat.{GoOn, chip_me}
use Rattle.ccan_endless.proofs.picture.collect_all.Given as goal

-- the values so far were those of the first objects' words
abbrev pub invariant-loop-i : goal.invariant-loop-i
invariant-loop-i l =
    record {
      table : l.seat.table_id ≡ l.fn.seat.table_id;
      count : length l.values ≡ 64;
      onward : GoOn (chip_me l.fn.seat) (chip_me l.seat);
      told : CollectedIn l.words.profile l.i l.values l.fn.seat.me l.seat.me;
    }
