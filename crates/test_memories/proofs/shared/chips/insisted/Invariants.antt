use Rattle.std.proofs.Common.{◌≡◌}
use Rattle.test_memories.proofs.shared.chips.insisted.Given as goal

-- the port stays the memory's
abbrev pub invariant-loop-turn : goal.invariant-loop-turn
invariant-loop-turn l =
    (l.port.pass.memory ≡ l.fn.port.pass.memory) × (l.port.pass.port ≡ l.fn.port.pass.port)
