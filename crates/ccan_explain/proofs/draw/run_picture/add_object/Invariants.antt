use Rattle.std.proofs.Common.{◌≡◌, ◌++◌, map, take}
use Rattle.ccan_ram.specs.declared.flag.Flag.{Flag}
use Rattle.ccan_explain.specs.Column.{AreColumns, shown_in}
use Rattle.ccan_explain.proofs.draw.run_picture.add_object.Given as goal

-- the columns of the flags so far, and all are this run's if those at the start were
abbrev pub invariant-loop-flag : goal.invariant-loop-flag
invariant-loop-flag l =
    record {
      flags : map shown_in l.columns.items
          ≡ map shown_in l.initial.columns.items ++ map (λ (flag : Flag). (l.object, flag)) (take l.flag-index l.flag-items);
      each : AreColumns l.steps l.initial.columns.items → AreColumns l.steps l.columns.items;
    }
