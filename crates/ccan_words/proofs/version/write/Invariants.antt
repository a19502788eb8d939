use Rattle.std.proofs.Common.{◌≡◌}
use Rattle.ccan_words.specs.Version.{IsWrittenIn}
use Rattle.ccan_words.proofs.version.write.Given as goal

-- the words so far are those of the version
abbrev pub invariant-loop-i : goal.invariant-loop-i
invariant-loop-i g l =
    (l.seat.table_id ≡ l.fn.seat.table_id) × IsWrittenIn (g.L.Layout.form l.words.profile) l.version l.i l.fn.seat.me l.seat.me
