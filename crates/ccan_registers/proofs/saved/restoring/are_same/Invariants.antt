use Rattle.std.proofs.Common.{◌≡◌, take}
use Rattle.ccan_registers.proofs.saved.restoring.are_same.Given as goal

-- the records so far are the same
abbrev pub invariant-loop-k : goal.invariant-loop-k
invariant-loop-k l = take l.k l.first ≡ take l.k l.second
