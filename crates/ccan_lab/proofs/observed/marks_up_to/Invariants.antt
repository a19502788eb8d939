use Rattle.std.proofs.Common.{◌≡◌, map}
use Rattle.std.specs.List.{range_with_len}
use Rattle.ccan_lab.specs.Observed.{is_observed}
use Rattle.ccan_lab.proofs.observed.marks_up_to.Given as goal

-- the marks of the places so far
abbrev pub invariant-loop-place : goal.invariant-loop-place
invariant-loop-place l =
    l.marks.items ≡ map (is_observed (map (λ name. name.now) l.names) l.counts.if1 l.counts.if2 l.counts.bus)
    (range_with_len 0 l.place)
