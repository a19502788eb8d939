use Rattle.std.proofs.Common.{◌≡◌}
use Rattle.test_memories.proofs.shared.rivals.insist.Given as goal

-- the port stays the memory's
abbrev pub invariant-loop-busy : goal.invariant-loop-busy
invariant-loop-busy g l =
    let ram = g.R.SharedRam in
    ((ram.pass l.port).memory ≡ (ram.pass l.fn.port).memory) × ((ram.pass l.port).port ≡ (ram.pass l.fn.port).port)
