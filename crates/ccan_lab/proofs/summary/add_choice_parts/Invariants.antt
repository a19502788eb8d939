use Rattle.std.proofs.Common.{◌≡◌, ◌++◌, string_bytes}
use Rattle.ccan_lab.specs.Place.{place_name}
use Rattle.ccan_lab.specs.Report.{each}
use Rattle.ccan_lab.specs.Sorted.{all_texts}
use Rattle.ccan_lab.specs.Summary.{choice_part, choices_at}
use Rattle.ccan_lab.proofs.summary.add_choice_parts.Given as goal

-- the places so far
abbrev pub invariant-loop-place : goal.invariant-loop-place
invariant-loop-place l =
    string_bytes l.text ≡ string_bytes l.initial.text ++ each l.place (λ place. choice_part
    (place_name l.counts.if1 l.counts.if2 l.counts.bus place) (choices_at (all_texts l.all) place))
