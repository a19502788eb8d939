use Rattle.std.proofs.Common.{refl, sym, ◌∙◌}
use Rattle.ccan_bus.proofs.Loads.{off, none, loaded, refused}
use Rattle.ccan_bus.proofs.bus.Bus.load_next.Goals as goal

pub returns-in-Ok-Some : goal.returns-in-Ok-Some
returns-in-Ok-Some g c =
    record {
      same = record { profile = refl; others = refl; choice = refl };
      goes_on =
          loaded c.args.tries c.args.self.now c.requires.empty (sym c.is_on-is_on.ensures ∙ c.if-is_on.true) _
          c.in-Ok-Some.object c.in-Ok-Some.started _ c.loaded_answer.ensures
          record { others = refl; nodes = refl; status = refl; loops_back = refl; choice = refl }
          c.loaded-self.ensures (rw c.in-Ok-Some.field-0-is at c.in-Ok-Some.ensures.adds);
    }

pub returns-in-Ok-None : goal.returns-in-Ok-None
returns-in-Ok-None g c =
    record {
      same = record { profile = refl; others = refl; choice = refl };
      goes_on =
          none c.args.tries c.args.self.now c.requires.empty (sym c.is_on-is_on.ensures ∙ c.if-is_on.true)
          (rw c.in-Ok-None.field-0-is at c.in-Ok-None.ensures.adds);
    }

pub returns-in-Err : goal.returns-in-Err
returns-in-Err g c =
    record {
      same = record { profile = refl; others = refl; choice = refl };
      goes_on =
          refused c.args.tries c.args.self.now c.requires.empty (sym c.is_on-is_on.ensures ∙ c.if-is_on.true)
          c.in-Err.refused _ c.refusal_of_load.ensures c.in-Err.ensures.adds;
    }

pub returns-else-is_on : goal.returns-else-is_on
returns-else-is_on g c =
    record {
      same = record { profile = refl; others = refl; choice = refl };
      goes_on = off c.args.tries c.args.self.now c.requires.empty (sym c.is_on-is_on.ensures ∙ c.if-is_on.false);
    }
