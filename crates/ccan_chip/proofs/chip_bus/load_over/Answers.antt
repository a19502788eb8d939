use Rattle.std.proofs.Common.{sym, subst}
use Rattle.ccan_ram.specs.SharedRam.{passes_of}
use Rattle.ccan_bus.specs.Bus.{GoesOnWith}
use Rattle.ccan_bus.specs.Load.{Loads}
use Rattle.ccan_endless.specs.ChipPort.{ChipPass}
use Rattle.ccan_endless.specs.Layout.{same_object}
use Rattle.ccan_chip.proofs.chip_bus.load_over.Goals as goal

pub returns-clause-goes_on : goal.returns-clause-goes_on
returns-clause-goes_on g c =
    subst (λ (u : ChipPass × ChipPass). GoesOnWith (passes_of same_object u.0.pass) (passes_of same_object u.1.pass)
    c.args.bus.now c.load.new.self (λ terms seen added past after.
    Loads terms c.args.tries seen added past after c.load.result))
    (λ i. (c.new-objects.ensures.port i, sym c.into_lent.ensures.port i)) c.load.ensures.goes_on
