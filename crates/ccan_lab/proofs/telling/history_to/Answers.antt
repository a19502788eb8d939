use Rattle.std.proofs.Common.{◌≡◌, Some, None, slice_get, sym, subst, ◌∙◌, arith}
use Rattle.std.proofs.lemmas.Result.{IfOk-weaker}
use Rattle.ccan_language.proofs.Grown.{same_some}
use Rattle.ccan_outcomes.specs.RaceScript.{fields_of}
use Rattle.ccan_outcomes.specs.declared.ending.Ending.{Ending}
use Rattle.ccan_outcomes.specs.History.{IsHistoryOf}
use Rattle.ccan_outcomes.specs.OutcomeWords.{ending_of_word, endings_in}
use Rattle.ccan_lab.specs.Telling.{frames_in}
use Rattle.ccan_lab.proofs.Listed.{past_all}
use Rattle.ccan_lab.proofs.telling.history_to.Goals as goal

pub unreachable-requires : goal.unreachable-requires
unreachable-requires g c =
    let endings = endings_in c.args.telling.now.list.now.words in
    let none : slice_get endings c.args.number ≡ None = rw c.in_default.is at c.in_ok-word.ensures.none in
    let past = past_all endings c.args.number none in
    let within = c.requires.within in
    omega (arith, past, within)

pub history_by_word-requires-clause-said : goal.history_by_word-requires-clause-said
history_by_word-requires-clause-said g c = rw c.in-Some.is at c.in_ok-word.ensures.said

pub returns-clause-history : goal.returns-clause-history
returns-clause-history g c =
    let list = c.args.telling.now.list.now in
    let words = list.words in
    let word = c.in-Some.word in
    let at : slice_get (endings_in words) c.args.number ≡ Some (ending_of_word words word.items) =
    rw c.in-Some.is at c.in_ok-word.ensures.some in
    IfOk-weaker c.history_by_word.result _ _
    (λ history is ending there. subst (λ (e : Ending).
    IsHistoryOf (frames_in list) (fields_of c.args.telling.now.query.now.race.now) e history.steps.items)
    (same_some (ending_of_word words word.items) ending (sym at ∙ there)) is)
    c.history_by_word.ensures.history
