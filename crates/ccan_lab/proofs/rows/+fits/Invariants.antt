use Rattle.std.proofs.Common.{◌≡◌, drop, length}
use Rattle.ccan_lab.specs.Rows.{fits, some_rest}
use Rattle.ccan_lab.proofs.rows.+fits.Given as goal

-- each call has less of the beginning
abbrev pub decreases-fits : goal.decreases-fits
decreases-fits l = length l.begin.now

-- no rest so far passes
abbrev pub invariant-loop-start : goal.invariant-loop-start
invariant-loop-start l = some_rest (fits l.later) l.line ≡ some_rest (fits l.later) (drop l.start l.line)
