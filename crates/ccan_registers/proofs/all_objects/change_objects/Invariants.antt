use Rattle.std.specs.Prelude.{◌≡◌}
use Rattle.ccan_registers.specs.ChipSteps.{ChipGoes}
use Rattle.ccan_registers.specs.AllObjects.{HaveChanged}
use Rattle.ccan_registers.proofs.all_objects.change_objects.Given as goal

-- the port works as it did, and the objects so far were changed
abbrev pub invariant-loop-n : goal.invariant-loop-n
invariant-loop-n l =
    record {
      settings : l.chip.settings ≡ l.fn.chip.settings;
      goes : ChipGoes l.fn.chip.port l.chip.port (λ terms seen added. HaveChanged terms l.fn.change l.fn.tries l.n seen added);
    }
