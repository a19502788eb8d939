use Rattle.ccan_c.specs.Begin.{Begins}
use Rattle.ccan_c.proofs.Chips.{all_open}
use Rattle.ccan_c.proofs.opening.chip_of.Goals as goal

pub returns : goal.returns
returns c =
    let a = c.args in
    all_open c.of.result _ _ _ (Begins a.if1 a.first.now) (Begins a.if2 a.second.now) (Begins a.bus a.third.now)
    c.of.ensures.if1 c.of.ensures.if2 c.of.ensures.bus c.in_ok-if1.ensures c.in_ok-if2.ensures c.in_ok-bus.ensures
