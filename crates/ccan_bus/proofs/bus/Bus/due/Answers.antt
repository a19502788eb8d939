use Rattle.std.proofs.Common.{refl}
use Rattle.ccan_bus.proofs.Profiles.{held_by}
use Rattle.ccan_bus.proofs.bus.Bus.due.Goals as goal

pub returns-in-Some : goal.returns-in-Some
returns-in-Some c =
    let own = c.in-Some.ensures.some in
    record {
      due = (c.if-winner-eq0.true, refl, own.0, own.1);
      held = held_by c.args.self.now c.in-Some.own.object own.0 own.1 _ refl;
    }
