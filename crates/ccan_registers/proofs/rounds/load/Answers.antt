use Rattle.ccan_registers.proofs.Rounding.{loads_on_chip}
use Rattle.ccan_registers.proofs.rounds.load.Goals as goal

pub returns-clause-goes : goal.returns-clause-goes
returns-clause-goes c past led =
    let run = c.load in
    let there = run.ensures.load past led in (
      there.0,
      there.1,
      loads_on_chip c.args.chip.now.port run.new.chip.port c.args.chip.now.settings.tries past there.0 run.result.0 run.result.1
          c.requires.bus run.ensures.sees there.2,
    )
