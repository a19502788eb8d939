use Rattle.std.proofs.Common.{refl, ap, ◌∙◌, arith}
use Rattle.ccan_confine.specs.Status.{word_after}
use Rattle.ccan_bus.proofs.Pasts.{LedTo-step, levels_now}
use Rattle.ccan_bus.proofs.bus.Bus.status_read.Goals as goal

pub returns-clause-goes_on : goal.returns-clause-goes_on
returns-clause-goes_on c =
    let bus = c.args.self.now in
    let all = bus.all in
    record {
      each = λ past led. (
        _,
        LedTo-step past bus _ _ refl refl refl refl refl c.read.ensures.listed led,
        record {
          value =
              c.read.ensures.answers past.steps led.status ∙ ap (word_after past.steps)
              (levels_now past bus c.index-self-0.result led (omega arith));
          read = refl;
        },
      );
    }
