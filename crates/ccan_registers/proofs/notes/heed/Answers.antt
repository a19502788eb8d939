use Rattle.ccan_registers.proofs.Going.{heeded}
use Rattle.ccan_registers.proofs.notes.heed.Goals as goal

pub returns-clause-goes : goal.returns-clause-goes
returns-clause-goes c =
    let e = c.heed.ensures in
    heeded c.args.chip.now.port c.heed.new.self.port c.args.note.whole e.none e.objects e.heeds
