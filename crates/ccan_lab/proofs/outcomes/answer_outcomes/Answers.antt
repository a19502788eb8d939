use Rattle.std.proofs.Common.{length, map, rules}
use Rattle.std.proofs.lemmas.Result.{IfOk-weaker}
use Rattle.ccan_lab.specs.Answered.{IsAnswered, names_its_file}
use Rattle.ccan_lab.specs.EachFile.{IsPartOf, has_headings}
use Rattle.ccan_lab.specs.EachList.{IsListPart, IsPartBy}
use Rattle.ccan_lab.specs.Outcomes.{IsNotOfAll, IsOfAll}
use Rattle.ccan_lab.proofs.Answered.{answered_for}
use Rattle.ccan_lab.proofs.Writing.{list_part, whole_part}
use Rattle.ccan_lab.proofs.outcomes.answer_outcomes.Goals as goal

pub returns-in-All-clause-answered : goal.returns-in-All-clause-answered
returns-in-All-clause-answered g c =
    let question = c.args.question.now in
    let files = question.files.items in
    let shown = has_headings (names_its_file question.asked) (length files) in
    let of : IsOfAll question.asked = search rules in
    IfOk-weaker c.list_each.result _ _
    (answered_for (IsListPart question shown) (IsPartBy question.asked question shown) (list_part question shown question.asked of)
    (map (λ file. file.now) files) _ _)
    c.list_each.ensures.listed

pub returns-in-Summary-clause-answered : goal.returns-in-Summary-clause-answered
returns-in-Summary-clause-answered g c =
    let question = c.args.question.now in
    let files = question.files.items in
    let shown = has_headings (names_its_file question.asked) (length files) in
    let of : IsNotOfAll question.asked = search rules in
    IfOk-weaker c.answer_whole.result _ _
    (answered_for (IsPartOf (IsAnswered question) shown) (IsPartBy question.asked question shown)
    (whole_part question shown question.asked of) (map (λ file. file.now) files) _ _)
    c.answer_whole.ensures.answered
