use Rattle.std.proofs.Common.{List, ℕ, rules, subst}
use Rattle.std.proofs.lemmas.Result.{IfOk-weaker}
use Rattle.ccan_lab.specs.Answered.{IsAnswered}
use Rattle.ccan_lab.proofs.Answered.{answered_so}
use Rattle.ccan_lab.proofs.outcomes.answer_whole.Goals as goal

pub returns-clause-answered : goal.returns-clause-answered
returns-clause-answered g c =
    let question = c.args.question.now in
    IfOk-weaker c.answer_each.result _ _ (λ status are.
    answered_so _ (IsAnswered question) (λ name answered returns.
    subst (λ (it : List ℕ). IsAnswered question it answered) returns.shows (search rules))
    _ _ c.is_named-are_named.ensures.value _ _ c.as_slice-files.ensures.value _ _ status are)
    c.answer_each.ensures.answered
