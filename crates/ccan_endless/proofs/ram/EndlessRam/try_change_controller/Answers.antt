-- The exchange speaks of the word that it found, which is that of one controller alone.
use Rattle.std.proofs.Common.{ap, sym, ◌∙◌, subst}
use Rattle.ccan_confine.specs.Controller.{IsController, packed}
use Rattle.ccan_endless.specs.Chip.{controller_at}
use Rattle.ccan_endless.proofs.ram.EndlessRam.try_change_controller.Goals as goal

pub returns-in-Err-clause-lost : goal.returns-in-Err-clause-lost
returns-in-Err-clause-lost c =
    let l = c.in-Err.ensures.lost in
    let now = c.unpack.ensures (controller_at c.exchange_controller.new.port.whole) l.1 (sym l.0) in
    (now, subst IsController (sym now) l.1, l.2)

pub returns-in-Err-clause-differ : goal.returns-in-Err-clause-differ
returns-in-Err-clause-differ c same =
    let l = c.in-Err.ensures.lost in
    let now = c.unpack.ensures (controller_at c.exchange_controller.new.port.whole) l.1 (sym l.0) in
    c.in-Err.ensures.differ (l.0 ∙ (ap packed (sym now ∙ same) ∙ sym c.pack.ensures.word))
