use Rattle.ccan_registers.proofs.Framing.{stays_on_chip}
use Rattle.ccan_registers.proofs.frames.stay.Goals as goal

pub returns-clause-goes : goal.returns-clause-goes
returns-clause-goes c =
    let run = c.stay in
    stays_on_chip c.args.chip.now.port run.new.chip.port c.args.station.now run.new.self run.result run.ensures.stays
