use Rattle.std.proofs.Common.{◌≡◌, ◌++◌, string_bytes}
use Rattle.ccan_lab.specs.Listing.{different_line}
use Rattle.ccan_lab.specs.Report.{each}
use Rattle.ccan_lab.specs.Sorted.{all_texts}
use Rattle.ccan_lab.proofs.report.add_different.Given as goal

-- the lines of the places so far
abbrev pub invariant-loop-place : goal.invariant-loop-place
invariant-loop-place l =
    string_bytes l.text ≡ string_bytes l.initial.text ++ each l.place (different_line (all_texts l.choices) l.rows)
