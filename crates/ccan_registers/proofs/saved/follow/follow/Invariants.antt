use Rattle.ccan_registers.specs.Looks.{GoesOn}
use Rattle.ccan_registers.proofs.saved.follow.follow.Given as goal

-- the port goes on from where it was
abbrev pub invariant-loop-step : goal.invariant-loop-step
invariant-loop-step l = GoesOn l.fn.port l.port
