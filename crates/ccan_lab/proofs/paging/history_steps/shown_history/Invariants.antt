use Rattle.std.proofs.Common.{◌≡◌, map, take}
use Rattle.ccan_lab.specs.Paging.{line_of, line_stepped}
use Rattle.ccan_lab.proofs.paging.history_steps.shown_history.Given as goal

-- the lines of the steps so far
abbrev pub invariant-loop-place : goal.invariant-loop-place
invariant-loop-place l = map line_of l.made.items ≡ map line_stepped (take l.place l.steps)
