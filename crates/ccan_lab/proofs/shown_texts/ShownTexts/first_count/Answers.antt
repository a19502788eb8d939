use Rattle.std.proofs.Common.{length, map, not, string_bytes, sym, ap, ◌∙◌, count_by}
use Rattle.std.proofs.lemmas.List.Sums.{length-filter}
use Rattle.ccan_lab.specs.Observed.{first_count, repeats_in}
use Rattle.ccan_lab.proofs.shown_texts.ShownTexts.first_count.Goals as goal

pub returns : goal.returns
unfolding first_count
returns c =
    let lines = c.args.self.now.lines.items in
    c.false_count.ensures ∙ ap (count_by not) (c.as_slice.ensures.value ∙ c.args.self.now.are)
    ∙ sym (length-filter not (repeats_in (map string_bytes lines) (length lines)))
