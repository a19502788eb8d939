use Rattle.std.proofs.Common.{◌≡◌, take, fold}
use Rattle.ccan_language.specs.Hashing.{mixed}
use Rattle.ccan_language.proofs.hashing.IndexHasherHasher.write.Given as goal

abbrev pub invariant-loop-byte : goal.invariant-loop-byte
invariant-loop-byte l = l.state ≡ fold mixed l.fn.self.state (take l.byte-index l.bytes)
