use Rattle.ccan_registers.proofs.Rounding.{round_on_chip}
use Rattle.ccan_registers.proofs.rounds.round.Goals as goal

pub returns-clause-goes : goal.returns-clause-goes
returns-clause-goes c past led =
    let run = c.round in
    let there = run.ensures.round past led in (
      there.0,
      there.1,
      round_on_chip c.args.chip.now.port run.new.chip.port c.args.line.now c.args.chip.now.settings.tries past there.0 run.result
          c.requires.bus there.2,
    )
