use Rattle.std.proofs.Common.{sym, subst}
use Rattle.ccan_endless.specs.Note.{IsNote}
use Rattle.ccan_endless.proofs.Notes.{is_note}
use Rattle.ccan_endless.proofs.ram.EndlessRam.tell.Goals as goal

pub invariant_of-result : goal.invariant_of-result
invariant_of-result c =
    subst IsNote (sym c.replace-seat.ensures.value)
    (is_note c.port.inside c.port.invariant c.part-seat.new.seat c.part-seat.ensures.kept c.part-seat.ensures.chip.0)
