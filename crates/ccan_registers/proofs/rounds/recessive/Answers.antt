use Rattle.ccan_registers.proofs.Rounding.{recovers_on_chip}
use Rattle.ccan_registers.proofs.rounds.recessive.Goals as goal

pub returns-clause-goes : goal.returns-clause-goes
returns-clause-goes c past led =
    let run = c.recessive in
    recovers_on_chip c.args.chip.now.port run.new.chip.port c.args.groups c.args.chip.now.settings.tries c.args.bus.now
    run.new.self run.result run.ensures.made run.ensures.busy past led
