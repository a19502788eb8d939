use Rattle.std.proofs.Common.{◌≡◌}
use Rattle.ccan_ram.specs.Access.{Goes}
use Rattle.ccan_ram.specs.SharedRam.{passes_of}
use Rattle.ccan_ram.proofs.Attempts.{SoFar}
use Rattle.test_memories.proofs.shared.contended.ContendedAccess.change.Given as goal

-- the tries so far were lost
abbrev pub invariant-loop-turn : goal.invariant-loop-turn
invariant-loop-turn g l =
    let ram = g.R.SharedRam in
    record {
      mine : (ram.pass l.self.port).memory ≡ ram.memory l.self.ram.now;
      theirs : (ram.pass l.self.rival).memory ≡ ram.memory l.self.ram.now;
      same : l.self.ram.now ≡ l.fn.self.ram.now;
      quota : l.self.quota ≡ l.fn.self.quota;
      lost : Goes (passes_of ram.contends (ram.pass l.fn.self.port)) (passes_of ram.contends (ram.pass l.self.port))
          (λ terms seen added. SoFar l.object l.change l.turn l.last terms seen added);
    }
