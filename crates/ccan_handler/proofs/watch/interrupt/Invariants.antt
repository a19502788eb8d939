use Rattle.std.proofs.Common.{◌≤◌, ◌-◌}
use Rattle.ccan_ram.specs.Access.{Goes}
use Rattle.ccan_ram.specs.declared.flag.Flag.TheVariants.{IntPnd}
use Rattle.ccan_handler.specs.Watch.{NoneShows, in_turn}
use Rattle.ccan_handler.proofs.watch.interrupt.Given as goal

-- no object so far showed IntPnd
abbrev pub invariant-loop-number : goal.invariant-loop-number
invariant-loop-number g l =
    let passes = g.A.Access.passes in
    record {
      some : 1 ≤ l.number;
      none : Goes (passes l.fn.access) (passes l.access)
          (λ terms seen added. NoneShows terms in_turn IntPnd (l.number - 1) added);
    }
