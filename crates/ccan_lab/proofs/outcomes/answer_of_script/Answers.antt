use Rattle.std.proofs.Common.{◌≡◌, ◌∙◌, ap, string_bytes}
use Rattle.std.proofs.lemmas.Result.{IfOk-weaker}
use Rattle.ccan_outcomes.specs.RaceScript.{fields_of}
use Rattle.ccan_lab.specs.declared.answer.Answer.{Answer}
use Rattle.ccan_lab.specs.Answered.{status_if}
use Rattle.ccan_lab.proofs.ByAsked.{by_can, by_names, by_never, by_summary}
use Rattle.ccan_lab.proofs.outcomes.answer_of_script.Goals as goal
use Rattle.ccan_lab.proofs.outcomes.answer_of_script.Goals.{in-Can+in_ok-answer-in-Can}
use Rattle.ccan_lab.proofs.outcomes.answer_of_script.Goals.{in-Never+in_ok-answer-in-Never, in-Observed+in_ok-answer-in-Observed}

pub returns-in-Summary-clause-answered : goal.returns-in-Summary-clause-answered
returns-in-Summary-clause-answered g c =
    IfOk-weaker c.answer_of_summary.result _ _ (λ answer told.
    by_summary c.args.question.now (string_bytes c.args.source.now.name) (fields_of c.args.race.now) answer c.in-Summary.is told)
    c.answer_of_summary.ensures.told

pub returns-clause-answered : goal.returns-clause-answered
returns-clause-answered g c =
    let question = c.args.question.now in
    let name = string_bytes c.args.source.now.name in
    let script = fields_of c.args.race.now in
    let answer = c.file_answer.result in
    let lines = c.as_slice-lines.result.now in
    let text = λ (given : Answer) (is : c.match-question.answer ≡ given).
    c.file_answer.ensures.text ∙ ap (λ (it : Answer). string_bytes it.text) is in
    let status = λ (given : Answer) (is : c.match-question.answer ≡ given).
    c.file_answer.ensures.status ∙ ap (λ (it : Answer). status_if it.holds) is in
    elim c.match-question.branch [
      | in-Can+in_ok-answer-in-Can w ↦
          by_can question name script answer w.in_ok-answer-in-Can.answer (text _ w.answer-is) (status _ w.answer-is)
          lines c.as_slice-lines.ensures.value w.in-Can.is w.in_ok-answer-in-Can.ensures.told
      | in-Never+in_ok-answer-in-Never w ↦
          by_never question name script answer w.in_ok-answer-in-Never.answer (text _ w.answer-is) (status _ w.answer-is)
          lines c.as_slice-lines.ensures.value w.in-Never.is w.in_ok-answer-in-Never.ensures.told
      | in-Observed+in_ok-answer-in-Observed w ↦
          by_names question name script answer w.in_ok-answer-in-Observed.answer (text _ w.answer-is) (status _ w.answer-is)
          w.in-Observed.names w.in-Observed.is w.in_ok-answer-in-Observed.ensures.told w.in_ok-answer-in-Observed.ensures.holds
    ]
