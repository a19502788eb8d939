use Rattle.std.proofs.Common.{◌++◌, inl, inr, refl, rules}
use Rattle.std.specs.Prelude.{Err}
use Rattle.std.proofs.lemmas.Result.{IfErr-weaker, IfOk-weaker}
use Rattle.ccan_lab.specs.Answered.{IsAnswered, IsUnread, RefusesFile}
use Rattle.ccan_lab.specs.EachFile.{heading_if}
use Rattle.ccan_lab.proofs.Writing.{nothing_written, unwritten_for}
use Rattle.ccan_lab.proofs.each_list.list_file.Goals as goal

pub returns-clause-listed : goal.returns-clause-listed
returns-clause-listed g c =
    IfOk-weaker c.list_source.result _ _ (λ end listed. (
      heading_if c.args.is_shown c.args.file.now ++ listed.0,
      listed.1,
      (c.in_ok-source.source.text.items, listed.0, listed.2, refl),
    ))
    c.list_source.ensures.listed

pub returns-clause-unlisted : goal.returns-clause-unlisted
returns-clause-unlisted g c =
    let question = c.args.question.now in
    let bytes = c.in_ok-source.source.text.items in
    IfErr-weaker c.list_source.result _ _
    (unwritten_for (RefusesFile question bytes) (λ why. IsAnswered question c.args.file.now (Err why))
    (λ why refuses. inr (bytes, refuses)) _ _)
    c.list_source.ensures.unlisted

pub returns-in_err-source-clause-unlisted : goal.returns-in_err-source-clause-unlisted
returns-in_err-source-clause-unlisted g c =
    let question = c.args.question.now in
    IfErr-weaker c.from_residual.result IsUnread _
    (λ why unread. nothing_written (λ why. IsAnswered question c.args.file.now (Err why)) _ why (inl unread))
    (search rules)
