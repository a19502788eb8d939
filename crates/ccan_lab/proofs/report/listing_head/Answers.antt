use Rattle.std.proofs.Common.{◌++◌, ◌∙◌}
use Rattle.ccan_lab.specs.Counting.{count_text}
use Rattle.ccan_lab.specs.Sorted.{all_texts}
use Rattle.ccan_lab.specs.Summary.{same_parts}
use Rattle.ccan_lab.proofs.report.listing_head.Goals as goal

pub returns : goal.returns
returns c =
    let same = same_parts (all_texts c.args.choices.now) in
    c.in_ok-add_same_parts.ensures ∙ (λ i. c.in_ok-text.ensures i ++ same) ∙ (λ i. count_text (c.count.ensures i) ++ same)
