use Rattle.std.proofs.Common.{◌≡◌, ◌<◌, ◌+◌}
use Rattle.ccan_ram.specs.Access.{Goes}
use Rattle.ccan_ram.specs.Array.{passes_of}
use Rattle.test_contended.specs.Contended.{contended, host}
use Rattle.test_contended.proofs.Tries.{SoFar}
use Rattle.test_contended.proofs.contended.ContendedAccess.change.Given as goal

-- the tries so far were lost, each to one transfer of the other host
abbrev pub invariant-loop-turn : goal.invariant-loop-turn
invariant-loop-turn l =
    let first = l.fn.self in
    let before = passes_of first.ram.profile first.ram.records first.ram.used first.ram.port first.ram.quota in
    let now = passes_of l.self.ram.profile l.self.ram.records l.self.ram.used l.self.ram.port l.self.ram.quota in
    let theirs = host first.profile first.quota first.theirs.now first.made in
    record {
      profile : l.self.profile ≡ first.profile;
      quota : l.self.quota ≡ first.quota;
      used : l.self.used ≡ first.used;
      list : l.self.theirs.now ≡ first.theirs.now;
      made : l.self.made ≡ first.made + l.turn;
      room : first.used < first.quota;
      lost : Goes (contended first.profile first.quota before first.made first.used)
          (contended first.profile first.quota now l.self.made first.used)
          (λ terms seen added. SoFar theirs l.object l.change l.turn l.last terms seen added);
    }
