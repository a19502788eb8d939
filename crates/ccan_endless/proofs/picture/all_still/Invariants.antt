use Rattle.std.proofs.Common.{◌≡◌}
use Rattle.ccan_endless.specs.Picture.{StayedIn}
use Rattle.ccan_endless.specs.Seat.{GoOn, chip_me}
use Rattle.ccan_endless.proofs.picture.all_still.Given as goal

-- the first objects' words still had their numbers
abbrev pub invariant-loop-i : goal.invariant-loop-i
invariant-loop-i l =
    record {
      table : l.seat.table_id ≡ l.fn.seat.table_id;
      onward : GoOn (chip_me l.fn.seat) (chip_me l.seat);
      told : StayedIn l.words.profile l.i l.values l.fn.seat.me l.seat.me;
    }
