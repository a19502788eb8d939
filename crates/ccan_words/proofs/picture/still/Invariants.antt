use Rattle.std.proofs.Common.{◌≡◌}
use Rattle.ccan_words.specs.Picture.{CountedIn}
use Rattle.ccan_words.proofs.picture.still.Given as goal

-- the first objects' words still held their numbers
abbrev pub invariant-loop-i : goal.invariant-loop-i
invariant-loop-i g l =
    record {
      table : l.seat.table_id ≡ l.fn.seat.table_id;
      told : CountedIn (g.L.Layout.form l.words.profile) l.i l.numbers l.fn.seat.me l.seat.me;
    }
