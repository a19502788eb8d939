use Rattle.std.proofs.Common.{sym, subst, ◌∙◌, ◌≡◌, false}
use Rattle.ccan_confine.specs.Counters.{faults_to_off}
use Rattle.ccan_bus.specs.Bus.{LedTo}
use Rattle.ccan_chip.specs.Arrival.{takes_part}
use Rattle.ccan_chip.proofs.chip_bus.ChipBus.take.Goals as goal

pub returns-else-takes_part-clause-takes : goal.returns-else-takes_part-clause-takes
returns-else-takes_part-clause-takes c past events led after =
    let out : takes_part c.args.found.now ≡ false = sym c.takes_part.ensures ∙ c.if-takes_part.false in
    let taken = c.take_controller-else-takes_part.ensures.takes past faults_to_off led c.gone_off.ensures.listed in
    let dropped = c.unload.ensures.goes_on.each _ taken in
    rw out (subst (λ p. LedTo p c.unload.new.self) dropped.2 dropped.1)
