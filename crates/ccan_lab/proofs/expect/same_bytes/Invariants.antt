use Rattle.std.proofs.Common.{◌≡◌, ◌≤◌, length, take}
use Rattle.ccan_lab.proofs.expect.same_bytes.Given as goal

-- both texts have so many bytes, and they are the same
abbrev pub invariant-loop-offset : goal.invariant-loop-offset
invariant-loop-offset l = (l.offset ≤ length l.printed) × (take l.offset l.expected ≡ take l.offset l.printed)
