use Rattle.std.proofs.Common.{ℕ, ◌≡◌, ◌≤◌, ◌<◌, true}
use Rattle.ccan_explain.specs.Bar.{is_set}
use Rattle.ccan_explain.proofs.draw.bar.end_of.Given as goal

-- the flag is set in the rows so far
abbrev pub invariant-loop-row : goal.invariant-loop-row
invariant-loop-row l = (row : ℕ) → l.from ≤ row → row < l.row → is_set l.shown row ≡ true
