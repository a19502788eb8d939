use Rattle.std.proofs.Common.{map, ap, ◌∙◌}
use Rattle.std.proofs.lemmas.Result.{IfOk-weaker}
use Rattle.ccan_lab.specs.Observed.{observed_lines}
use Rattle.ccan_lab.specs.Rows.{rows_of}
use Rattle.ccan_lab.proofs.Apart.{texts_by_rows}
use Rattle.ccan_lab.proofs.seen.shown_texts.Goals as goal

pub returns : goal.returns
returns c =
    let marks = c.args.marks.now in
    let keys = c.args.shown.now.endings.items in
    IfOk-weaker c.observed_texts.result _ _
    (λ texts is.
    is
    ∙ (ap (map (observed_lines marks))
    (c.as_slice-2.ensures.value ∙ (c.in_ok-all.ensures ∙ ap (map rows_of) c.as_slice.ensures.value))
    ∙ texts_by_rows marks keys))
    c.observed_texts.ensures
