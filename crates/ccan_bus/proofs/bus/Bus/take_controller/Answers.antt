use Rattle.std.proofs.Common.{refl}
use Rattle.ccan_bus.proofs.Controllers.{taken}
use Rattle.ccan_bus.proofs.bus.Bus.take_controller.Goals as goal

pub returns-clause-takes : goal.returns-clause-takes
returns-clause-takes c past events led after =
    taken c.args.counters c.args.loops_back c.args.self.now _
    record {
      others = refl;
      nodes = refl;
      status = c.new-self.ensures.listed;
      loaded = refl;
      loops_back = refl;
      choice = refl;
    } c.args.self.now.all past events led after
