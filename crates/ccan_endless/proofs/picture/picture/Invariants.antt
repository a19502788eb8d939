use Rattle.std.proofs.Common.{◌≡◌}
use Rattle.ccan_endless.specs.Picture.{TriedIn}
use Rattle.ccan_endless.specs.Seat.{GoOn, chip_me}
use Rattle.ccan_endless.proofs.picture.picture.Given as goal

-- the turns so far were lost
abbrev pub invariant-loop-turn : goal.invariant-loop-turn
invariant-loop-turn l =
    record {
      table : l.seat.table_id ≡ l.fn.seat.table_id;
      onward : GoOn (chip_me l.fn.seat) (chip_me l.seat);
      told : TriedIn l.words l.port l.turn l.fn.seat.me l.seat.me;
    }
