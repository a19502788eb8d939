use Rattle.ccan_registers.specs.Looks.{GoesOn}
use Rattle.ccan_registers.proofs.saved.follow.repeat.Given as goal

-- the port goes on from where it was
abbrev pub invariant-loop-turn : goal.invariant-loop-turn
invariant-loop-turn l = GoesOn l.fn.port l.port
