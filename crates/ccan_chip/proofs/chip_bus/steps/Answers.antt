use Rattle.std.proofs.Common.{sym, subst}
use Rattle.ccan_ram.specs.SharedRam.{passes_of}
use Rattle.ccan_bus.specs.Bus.{GoesOnWith}
use Rattle.ccan_bus.specs.RoundReport.{RunsSteps}
use Rattle.ccan_endless.specs.ChipPort.{ChipPass}
use Rattle.ccan_endless.specs.Layout.{same_object}
use Rattle.ccan_chip.proofs.chip_bus.steps.Goals as goal

pub returns-clause-goes_on : goal.returns-clause-goes_on
returns-clause-goes_on g c =
    subst (λ (u : ChipPass × ChipPass). GoesOnWith (passes_of same_object u.0.pass) (passes_of same_object u.1.pass)
    c.args.bus.now c.report_round.new.self (λ terms seen added past after.
    RunsSteps terms c.args.line.now c.args.tries seen added past after c.report_round.result))
    (λ i. (c.new-objects.ensures.port i, sym c.into_lent.ensures.port i)) c.report_round.ensures.goes_on
