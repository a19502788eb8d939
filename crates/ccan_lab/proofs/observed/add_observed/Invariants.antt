use Rattle.std.proofs.Common.{◌≡◌, ◌++◌, string_bytes}
use Rattle.ccan_lab.specs.Observed.{observed_line}
use Rattle.ccan_lab.specs.Report.{each}
use Rattle.ccan_lab.proofs.observed.add_observed.Given as goal

-- the lines of the places so far
abbrev pub invariant-loop-place : goal.invariant-loop-place
invariant-loop-place l =
    string_bytes l.text ≡ string_bytes l.initial.text ++ each l.place (observed_line l.marks l.rows)
