use Rattle.std.proofs.Common.{List, ℕ, string_bytes, subst}
use Rattle.std.proofs.lemmas.Result.{IfOk-weaker}
use Rattle.ccan_outcomes.specs.RaceScript.{fields_of}
use Rattle.ccan_lab.specs.Answered.{AnswersAsked, IsSearchedFor, raced}
use Rattle.ccan_lab.specs.Sorted.{texts_of}
use Rattle.ccan_lab.proofs.Allowed.{ends_so}
use Rattle.ccan_lab.proofs.outcomes.answer_of_source.Goals as goal

pub returns-clause-answered : goal.returns-clause-answered
returns-clause-answered g c =
    let question = c.args.question.now in
    let name = string_bytes c.args.source.now.name in
    let searched = fields_of c.in_ok-race.race in
    let it : IsSearchedFor c.args.source.now.text.items searched =
    subst (λ (bytes : List ℕ). IsSearchedFor bytes searched) c.as_slice.ensures.value c.in_ok-race.ensures.searched in
    IfOk-weaker c.answered_or_told.result (AnswersAsked question name searched) _ (λ answer asked. record {
      searched = searched;
      is_for = it;
      known = c.in_ok-refuse_unknown.ensures.known;
      tells = asked.tells;
      ends = ends_so (raced it.race) searched it.same_ends question.frames question.asked
          (texts_of question.lines.items) answer.status asked.ends;
    })
    c.answered_or_told.ensures.answered
