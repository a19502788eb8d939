use Rattle.std.proofs.Common.{◌∙◌, String, Global, ap, map, string_bytes}
use Rattle.std.specs.Global.{Vec}
use Rattle.std.proofs.lemmas.Result.{IfOk-weaker}
use Rattle.ccan_outcomes.specs.RaceScript.{fields_of}
use Rattle.ccan_lab.specs.Observed.{marks_of, names_in, observed_lines}
use Rattle.ccan_lab.specs.Rows.{rows_of}
use Rattle.ccan_outcomes.specs.OutcomeWords.{endings_in}
use Rattle.ccan_lab.proofs.Apart.{texts_by_rows}
use Rattle.ccan_lab.proofs.observed.shown_by.Goals as goal

pub returns : goal.returns
returns c =
    let marks = marks_of (names_in c.args.list.now) (fields_of c.args.race.now) in
    let keys = endings_in c.args.words.now in
    let all = c.in_ok-endings.ensures in
    IfOk-weaker c.new.result _ _ (λ texts is.
    ap (λ (lines : Vec (String Global)). map string_bytes lines.items) is
    ∙ c.in_ok-lines.ensures ∙ ap (map (observed_lines marks)) (c.as_slice-2.ensures.value ∙ c.in_ok-rows.ensures
    ∙ ap (map rows_of) (c.as_slice.ensures.value ∙ all)) ∙ texts_by_rows marks keys)
    c.new.ensures
