use Rattle.std.proofs.Common.{◌≡◌, ◌++◌, drop}
use Rattle.ccan_lab.specs.Replay.{ends_at}
use Rattle.ccan_lab.proofs.replay.ends_at.Given as goal

-- the ends so far, and those of the steps to come
abbrev pub invariant-loop-step : goal.invariant-loop-step
invariant-loop-step l =
    l.ends.items ++ ends_at l.frames l.port (drop l.step-index l.steps) ≡ ends_at l.frames l.port l.steps
