use Rattle.std.proofs.Common.{refl}
use Rattle.ccan_bus.proofs.OwnEvents.{sent_to_itself}
use Rattle.ccan_bus.proofs.bus.Bus.send_to_itself.Goals as goal

pub returns-clause-goes_on : goal.returns-clause-goes_on
returns-clause-goes_on c =
    sent_to_itself c.args.self.now _ c.after-controller.result c.index-self-0.result _
    record { others = refl; loops_back = refl; choice = refl; nodes = refl } refl
    c.after-controller.ensures.listed c.after.ensures.listed c.after-2.ensures.listed
