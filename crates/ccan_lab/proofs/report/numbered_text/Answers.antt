use Rattle.std.proofs.Common.{◌≡◌, ◌++◌, ℕ, List, Some, None, slice_get, sym, ap, ◌∙◌, subst}
use Rattle.std.proofs.lemmas.Option.{slice_get_within}
use Rattle.ccan_outcomes.specs.RaceScript.{fields_of}
use Rattle.ccan_outcomes.specs.OutcomeWords.{endings_in}
use Rattle.ccan_lab.specs.Listing.{IsNumberedText, different_lines}
use Rattle.ccan_lab.specs.OutcomeText.{IsOutcomeText}
use Rattle.ccan_lab.specs.Sorted.{all_texts}
use Rattle.ccan_lab.specs.Telling.{frames_in}
use Rattle.ccan_lab.proofs.Listed.{past_all, rows_there}
use Rattle.ccan_lab.proofs.report.numbered_text.Goals as goal

pub returns-clause-text : goal.returns-clause-text
returns-clause-text g c =
    let number = c.args.number in
    let script = fields_of c.args.telling.now.query.now.race.now in
    let frames = frames_in c.args.telling.now.list.now in
    let form = c.args.telling.now.query.now.form in
    let endings = endings_in c.args.telling.now.list.now.words in
    let choices = all_texts c.args.choices.now in
    let ending = c.in-Some.ending in
    let at : slice_get endings number ≡ Some ending = sym c.in_ok-ending.ensures ∙ c.in-Some.is in
    let made = c.in_ok-add_outcome.ensures in
    let text_is = sym (made.1 ∙ ap (λ (t : List ℕ). t ++ made.0) c.new-text.ensures.bytes) in
    let lines_are = c.as_str.ensures.value ∙ c.in_ok-lines.ensures
    ∙ ap (different_lines choices) (sym (rows_there endings number ending at)) in (
      slice_get_within endings number ending at,
      subst (λ (t : List ℕ). IsNumberedText frames form script endings choices number t) text_is
          (subst (λ (lines : List ℕ). IsOutcomeText frames form script endings lines number made.0) lines_are made.2),
    )

pub returns-in_default-clause-none : goal.returns-in_default-clause-none
returns-in_default-clause-none g c =
    let number = c.args.number in
    let endings = endings_in c.args.telling.now.list.now.words in
    let none : slice_get endings number ≡ None = sym c.in_ok-ending.ensures ∙ c.in_default.is in
    past_all endings number none
