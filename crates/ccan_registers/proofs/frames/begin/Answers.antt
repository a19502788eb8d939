use Rattle.ccan_registers.proofs.Framing.{begins_on_chip}
use Rattle.ccan_registers.proofs.frames.begin.Goals as goal

pub returns-clause-goes : goal.returns-clause-goes
returns-clause-goes c =
    let run = c.begin in
    begins_on_chip c.args.chip.now.port run.new.chip.port c.args.chip.now.settings.tries c.args.station.now run.new.self run.result
    c.requires.bus run.ensures.sees run.ensures.begins
