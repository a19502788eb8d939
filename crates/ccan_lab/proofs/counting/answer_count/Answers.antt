use Rattle.std.proofs.Common.{false, refl, rules}
use Rattle.std.proofs.lemmas.Result.{IfOk-weaker}
use Rattle.ccan_lab.specs.Answered.{IsCounted}
use Rattle.ccan_lab.proofs.Answered.{answered_so}
use Rattle.ccan_lab.proofs.counting.answer_count.Goals as goal

pub returns-clause-answered : goal.returns-clause-answered
returns-clause-answered g c =
    let frames = c.args.question.now.frames in
    let most = c.args.question.now.most in
    IfOk-weaker c.answer_each.result _ _ (λ status are.
    answered_so _ (λ name. IsCounted frames most) (λ name answered returns. search rules)
    false false refl _ _ c.as_slice-files.ensures.value _ _ status are)
    c.answer_each.ensures.answered
