use Rattle.std.proofs.Common.{refl}
use Rattle.ccan_bus.proofs.OwnEvents.{cleared_init}
use Rattle.ccan_bus.proofs.bus.Bus.clear_init.Goals as goal

pub returns-clause-goes_on : goal.returns-clause-goes_on
returns-clause-goes_on c =
    cleared_init c.args.self.now _ c.clear_init-controller.result c.index-self-0.result
    record { others = refl; loops_back = refl; choice = refl; nodes = refl } refl
    c.clear_init-controller.ensures.listed c.after.ensures.listed
