use Rattle.std.proofs.Common.{refl, sym, ◌∙◌}
use Rattle.ccan_bus.proofs.Pasts.{GoesOn-none, GoesOn-weaker}
use Rattle.ccan_bus.proofs.Profiles.{held_by}
use Rattle.ccan_bus.proofs.bus.Bus.decide_back.Goals as goal

pub returns-in-Some : goal.returns-in-Some
returns-in-Some c =
    let own = c.in-Some.ensures.some in
    record {
      same = c.send_to_itself.ensures.same;
      held = held_by c.args.self.now c.in-Some.own.object own.0 own.1 _ refl;
      goes_on = GoesOn-weaker c.send_to_itself.ensures.goes_on
          (λ past after led there sent.
          record { started = own.0; loaded = sym led.loaded ∙ own.1; frame_is = own.2; happened = sent });
    }

pub returns-in-None : goal.returns-in-None
returns-in-None c =
    record {
      same = record { profile = refl; others = refl; choice = refl };
      held = tt;
      goes_on = GoesOn-none c.args.self.now _
          (λ past led. record { empty = sym led.loaded ∙ c.in-None.ensures.none; quiet = refl; same = refl });
    }
