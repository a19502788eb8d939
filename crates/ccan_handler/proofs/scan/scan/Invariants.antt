use Rattle.std.proofs.Common.{◌≤◌, ◌-◌}
use Rattle.ccan_ram.specs.Access.{Goes}
use Rattle.ccan_handler.specs.Scan.{PassesOver}
use Rattle.ccan_handler.proofs.scan.scan.Given as goal

-- the objects so far were passed over
abbrev pub invariant-loop-number : goal.invariant-loop-number
invariant-loop-number g l =
    let passes = g.A.Access.passes in
    record {
      below : l.fn.from ≤ l.number;
      passes : Goes (passes l.fn.access) (passes l.access)
          (λ terms seen added. PassesOver terms l.fn.from (l.number - l.fn.from) l.change l.tries seen added);
    }
