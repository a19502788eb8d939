use Rattle.ccan_registers.proofs.Framing.{ends_on_chip}
use Rattle.ccan_registers.proofs.frames.end.Goals as goal

pub returns-clause-goes : goal.returns-clause-goes
returns-clause-goes c =
    let run = c.end in
    ends_on_chip c.args.chip.now.port run.new.chip.port c.args.chip.now.settings.tries c.args.wire.now c.args.place c.args.flaw
    c.args.station.now run.new.self run.result c.requires.bus run.ensures.over run.ensures.ends
