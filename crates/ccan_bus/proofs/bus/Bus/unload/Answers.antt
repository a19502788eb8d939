use Rattle.std.proofs.Common.{refl}
use Rattle.ccan_bus.proofs.Pasts.{LedTo-loaded}
use Rattle.ccan_bus.proofs.bus.Bus.unload.Goals as goal

pub returns-clause-goes_on : goal.returns-clause-goes_on
returns-clause-goes_on c =
    record {
      each = λ past led. (
        _,
        LedTo-loaded past c.args.self.now _ _ record {
          others = refl;
          nodes = refl;
          status = refl;
          loops_back = refl;
          choice = refl;
        }
            refl led,
        refl,
      );
    }
