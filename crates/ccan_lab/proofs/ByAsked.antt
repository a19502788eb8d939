-- What is answered of a script, by what is asked.
use Rattle.std.proofs.Common.{ℕ, ◌≡◌, ◌∙◌, ◌⊎◌, inl, inr, true, false, Bor, List, ap, string_bytes, subst, sym}
use Rattle.ccan_line.specs.Script.{ScriptFields}
use Rattle.ccan_outcomes.specs.contracts.ending.EndingPartialEq.TheImpl.{ghosts as ending_is}
use Rattle.ccan_lab.specs.declared.answer.Answer.{Answer}
use Rattle.ccan_lab.specs.declared.asked.Asked.{Asked}
use Rattle.ccan_lab.specs.declared.asked.Asked.TheVariants.{Summary, Can, Never, Observed}
use Rattle.ccan_lab.specs.declared.each_file.FileAnswer.{FileAnswer}
use Rattle.ccan_lab.specs.declared.outcomes.OutcomesQuestion.{OutcomesQuestion}
use Rattle.ccan_lab.specs.Answered.{AnswersAsked, EndsAsAsked, TellsBy, TellsShortList, status_if}
use Rattle.ccan_lab.specs.Observed.{names_in}
use Rattle.ccan_lab.specs.Seen.{TellsSeen}
use Rattle.ccan_lab.specs.Sorted.{texts_of}
use Rattle.ccan_lab.specs.Words.{AnswersLine}
use Rattle.ccan_lab.proofs.Allowed.{can_ends, never_ends}

-- the answer of what is asked
module _ (question : OutcomesQuestion) (name : List ℕ) (script : ScriptFields) (answer : FileAnswer) where
  by_asked : (asked : Asked) → question.asked ≡ asked → TellsBy asked question name script answer
      → EndsAsAsked asked question.frames script (texts_of question.lines.items) answer.status
      → AnswersAsked question name script answer
  by_asked asked is tells ends = record {
    tells = subst (λ (it : Asked). TellsBy it question name script answer) (sym is) tells;
    ends = subst (λ (it : Asked). EndsAsAsked it question.frames script (texts_of question.lines.items) answer.status)
        (sym is) ends;
  }

  ends_of_list : TellsShortList question.frames script ending_is.eq question.most answer → (answer.status ≡ 0) ⊎ (answer.status ≡ 5)
  ends_of_list (inl told) = inl told.1
  ends_of_list (inr told) = inr told.1

  -- the short list, with its number or without
  pub by_summary : question.asked ≡ Summary → TellsShortList question.frames script ending_is.eq question.most answer
      → AnswersAsked question name script answer
  by_summary is told = by_asked Summary is told (ends_of_list told)

-- an answer as a file's
module _ (question : OutcomesQuestion) (name : List ℕ) (script : ScriptFields) (answer : FileAnswer) (given : Answer)
    (text : answer.text.items ≡ string_bytes given.text) (status : answer.status ≡ status_if given.holds) where
  pub by_names : (names : Bor (List ℕ)) → question.asked ≡ Observed names
      → TellsSeen question.frames question.form (names_in names.now) script ending_is.eq (string_bytes given.text)
      → given.holds ≡ true → AnswersAsked question name script answer
  by_names names is told holds =
      by_asked question name script answer (Observed names) is
      (subst (TellsSeen question.frames question.form (names_in names.now) script ending_is.eq) (sym text) told)
      (status ∙ ap status_if holds)

  module _ (lines : List (Bor (List ℕ))) (are : lines ≡ question.lines.items) where
    pub by_can : question.asked ≡ Can
        → AnswersLine question.frames question.form script ending_is.eq question.most (texts_of lines) false
        (string_bytes given.text) given.holds
        → AnswersAsked question name script answer
    by_can is told =
        let begins = texts_of question.lines.items in
        let moved : AnswersLine question.frames question.form script ending_is.eq question.most begins false answer.text.items
        given.holds =
        subst (λ (t : List ℕ). AnswersLine question.frames question.form script ending_is.eq question.most begins false t
        given.holds) (sym text)
        (subst (λ (l : List (Bor (List ℕ))). AnswersLine question.frames question.form script ending_is.eq question.most
        (texts_of l) false
        (string_bytes given.text) given.holds) are told) in
        by_asked question name script answer Can is (given.holds, status, moved)
        (can_ends question.frames question.form script ending_is.eq question.most begins answer.text.items given.holds
        answer.status status moved)

    pub by_never : question.asked ≡ Never
        → AnswersLine question.frames question.form script ending_is.eq question.most (texts_of lines) true
        (string_bytes given.text) given.holds
        → AnswersAsked question name script answer
    by_never is told =
        let begins = texts_of question.lines.items in
        let moved : AnswersLine question.frames question.form script ending_is.eq question.most begins true answer.text.items
        given.holds =
        subst (λ (t : List ℕ). AnswersLine question.frames question.form script ending_is.eq question.most begins true t
        given.holds) (sym text)
        (subst (λ (l : List (Bor (List ℕ))). AnswersLine question.frames question.form script ending_is.eq question.most
        (texts_of l) true
        (string_bytes given.text) given.holds) are told) in
        by_asked question name script answer Never is (given.holds, status, moved)
        (never_ends question.frames question.form script ending_is.eq question.most begins answer.text.items given.holds
        answer.status status moved)
