use Rattle.ccan_registers.specs.Looks.{GoesOn}
use Rattle.ccan_registers.proofs.saved.follow.write_all.Given as goal

-- the port goes on from where it was
abbrev pub invariant-loop-k : goal.invariant-loop-k
invariant-loop-k l = GoesOn l.fn.port l.port
