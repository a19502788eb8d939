use Rattle.std.proofs.Common.{◌≡◌}
use Rattle.ccan_lab.specs.Observed.{is_place}
use Rattle.ccan_lab.proofs.observed.is_place.Given as goal

-- whether it is the name of one of the places so far
abbrev pub invariant-loop-place : goal.invariant-loop-place
invariant-loop-place l =
    l.is_found ≡ is_place l.word l.counts.if1 l.counts.if2 l.counts.bus l.place
