use Rattle.std.proofs.Common.{◌≡◌}
use Rattle.test_memories.proofs.shared.pictures.torn_pictures.Given as goal

-- the port stays the memory's
abbrev pub invariant-loop-turn : goal.invariant-loop-turn
invariant-loop-turn g l = let ram = g.R.SharedRam in (ram.pass l.port).memory ≡ (ram.pass l.fn.port).memory
