use Rattle.std.proofs.Common.{◌≡◌}
use Rattle.ccan_ram.specs.Access.{Goes}
use Rattle.ccan_ram.specs.SharedRam.{passes_of}
use Rattle.ccan_ram.proofs.Attempts.{SoFar}
use Rattle.ccan_words.proofs.ram.RamSharedRam.change.Given as goal

-- the tries so far were lost
abbrev pub invariant-loop-turn : goal.invariant-loop-turn
invariant-loop-turn g l =
    let contends = g.L.Layout.contends in
    record {
      memory : l.port.memory ≡ l.fn.port.memory;
      lost : Goes (passes_of contends l.fn.port) (passes_of contends l.port)
          (λ terms seen added. SoFar l.object l.change l.turn l.last terms seen added);
    }
