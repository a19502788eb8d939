use Rattle.std.proofs.Common.{◌≡◌}
use Rattle.test_speed.proofs.counting.line.Given as goal

-- the port stays one of the memory
abbrev pub invariant-loop : goal.invariant-loop
invariant-loop l = l.port.pass.memory ≡ l.ram.words
