use Rattle.std.proofs.Common.{◌≡◌, map, take}
use Rattle.ccan_lab.specs.Paging.{line_of, line_told}
use Rattle.ccan_lab.proofs.paging.run_steps.shown_steps.Given as goal

-- the lines of the steps so far
abbrev pub invariant-loop-step : goal.invariant-loop-step
invariant-loop-step l = map line_of l.made.items ≡ map line_told (take l.step-index l.steps)
