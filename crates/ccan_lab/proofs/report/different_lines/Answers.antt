use Rattle.std.proofs.Common.{◌++◌, length, ◌∙◌}
use Rattle.ccan_lab.specs.Listing.{different_line}
use Rattle.ccan_lab.specs.Report.{each}
use Rattle.ccan_lab.specs.Rows.{rows_of}
use Rattle.ccan_lab.specs.Sorted.{all_texts}
use Rattle.ccan_lab.proofs.Listed.{all_places}
use Rattle.ccan_lab.proofs.report.different_lines.Goals as goal

pub returns : goal.returns
returns c =
    let choices = c.args.choices.now in
    c.in_ok-add_different.ensures
    ∙ (λ i. c.new-text.ensures.bytes i ++ each (length choices) (different_line (all_texts choices) (c.in_ok-rows.ensures i)))
    ∙ all_places choices (rows_of c.args.ending.now)
