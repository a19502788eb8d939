use Rattle.std.proofs.Common.{◌≡◌, ◌∙◌, Bool, Bor, List, ℕ, length, map, subst}
use Rattle.std.proofs.lemmas.Result.{IfOk-weaker}
use Rattle.ccan_lab.specs.Answered.{names_its_file}
use Rattle.ccan_lab.specs.EachFile.{AreAnswered, has_headings}
use Rattle.ccan_lab.specs.EachList.{IsListPart}
use Rattle.ccan_lab.proofs.each_list.list_each.Goals as goal

pub returns-clause-listed : goal.returns-clause-listed
returns-clause-listed g c =
    let question = c.args.question.now in
    let files = question.files.items in
    let old = g.W.Write.contents c.args.writer.now in
    let new = g.W.Write.contents c.list_in_turn.new.writer in
    let shown : c.has_headings-is_shown.result ≡ has_headings (names_its_file question.asked) (length files) =
    c.has_headings-is_shown.ensures
    ∙ (λ i. has_headings (c.is_named.ensures.value i) (length (c.as_slice-files.ensures.value i))) in
    IfOk-weaker c.list_in_turn.result _ _ (λ status are.
    subst (λ (it : Bool). AreAnswered (IsListPart question it) (map (λ file. file.now) files) old new status) shown
    (subst (λ (l : List (Bor (List ℕ))). AreAnswered (IsListPart question c.has_headings-is_shown.result)
    (map (λ file. file.now) l) old new status) c.as_slice-files.ensures.value are))
    c.list_in_turn.ensures.listed
