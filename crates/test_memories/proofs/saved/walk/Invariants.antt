use Rattle.std.proofs.Common.{◌≡◌}
use Rattle.ccan_ram.specs.declared.port.PortName.TheVariants.{Bus}
use Rattle.test_memories.proofs.saved.walk.Given as goal

-- the port stays the memory's, and the bus's
abbrev pub invariant-loop-turn : goal.invariant-loop-turn
invariant-loop-turn g l = (l.bus.pass.memory ≡ l.ram.words) × (l.bus.pass.port ≡ Bus)
