use Rattle.std.proofs.Common.{◌≡◌}
use Rattle.ccan_object.specs.declared.profile.Profile.TheVariants.{One}
use Rattle.test_memories.proofs.shared.chip_threads.play.Given as goal

-- the port stays the memory's, and the bus that of a chip of this profile
abbrev pub invariant-loop-turn : goal.invariant-loop-turn
invariant-loop-turn l =
    (l.chip.port.pass.memory ≡ l.fn.chip.port.pass.memory) × (l.chip.port.pass.port ≡ l.fn.chip.port.pass.port)
    × (l.bus.bus.profile ≡ One)
