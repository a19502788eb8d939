use Rattle.std.proofs.Common.{◌≡◌, length}
use Rattle.ccan_words.specs.Picture.{CountedIn}
use Rattle.ccan_words.proofs.picture.collect.Given as goal

-- the numbers so far were those of the first objects' words
abbrev pub invariant-loop-i : goal.invariant-loop-i
invariant-loop-i g l =
    record {
      table : l.seat.table_id ≡ l.fn.seat.table_id;
      count : length l.numbers ≡ 64;
      told : CountedIn (g.L.Layout.form l.words.profile) l.i l.numbers l.fn.seat.me l.seat.me;
    }
