use Rattle.std.proofs.Common.{refl, sym, ap, subst, ◌∙◌, arith}
use Rattle.ccan_bus.specs.declared.arbitration.Outcome.TheVariants.{Collision}
use Rattle.ccan_bus.specs.Arbitration.{Arbitrates}
use Rattle.ccan_bus.specs.Contenders.{frames_of, sends_least}
use Rattle.ccan_bus.proofs.Rounds.{idle, collided}
use Rattle.ccan_bus.proofs.bus.Bus.contend.Goals as goal

pub returns-then-is_empty : goal.returns-then-is_empty
returns-then-is_empty c =
    record {
      same = record { profile = refl; others = refl; choice = refl };
      held = tt;
      goes_on = idle c.args.self.now c.args.line.now
          (sym c.contenders-contenders.ensures ∙ c.is_empty.ensures.none c.if-is_empty.true);
    }

pub returns-in-Collision : goal.returns-in-Collision
returns-in-Collision c =
    let all = c.contenders-contenders.ensures in
    record {
      same = c.happen.ensures.same;
      held = tt;
      goes_on =
          collided c.args.self.now c.args.line.now c.happen.new.self c.colliding-senders.result c.collision_code-code.result
          (subst (λ fs. Arbitrates fs Collision) (c.frames.ensures ∙ ap frames_of all) c.in-Collision.ensures)
          (λ node within. c.colliding-senders.ensures node within ∙ ap (λ cs. sends_least cs node) all)
          c.collision_code-code.ensures.value (omega arith) c.happen.ensures.goes_on;
    }
