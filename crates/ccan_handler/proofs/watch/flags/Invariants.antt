use Rattle.std.proofs.Common.{◌<◌, ◌^◌}
use Rattle.ccan_ram.specs.Access.{Goes}
use Rattle.ccan_handler.specs.Watch.{ReadsSome}
use Rattle.ccan_handler.proofs.watch.flags.Given as goal

-- the objects so far were looked at
abbrev pub invariant-loop-place : goal.invariant-loop-place
invariant-loop-place g l =
    let passes = g.A.Access.passes in
    record {
      below : l.word < 2 ^ l.place;
      reads : Goes (passes l.fn.access) (passes l.access) (λ terms seen added. ReadsSome terms l.flag l.place added l.word);
    }
