use Rattle.std.proofs.Common.{◌≡◌, ◌++◌, ℕ, List, Some, None, map, slice_get, string_bytes, sym, ap, ◌∙◌, subst, arith}
use Rattle.std.proofs.lemmas.Option.{slice_get_within}
use Rattle.ccan_outcomes.specs.RaceScript.{fields_of}
use Rattle.ccan_outcomes.specs.OutcomeWords.{endings_in}
use Rattle.ccan_lab.specs.Observed.{IsFirstText, is_repeat, text_at}
use Rattle.ccan_lab.specs.OutcomeText.{IsOutcomeText}
use Rattle.ccan_lab.specs.Telling.{frames_in}
use Rattle.ccan_lab.proofs.Listed.{past_all}
use Rattle.ccan_lab.proofs.observed.first_text.Goals as goal

pub add_if_first-requires-clause-within : goal.add_if_first-requires-clause-within
add_if_first-requires-clause-within g c =
    let number = c.args.number in
    let endings = endings_in c.args.telling.now.list.now.words in
    let at : slice_get endings number ≡ Some c.in-Some.ending = sym c.in_ok-ending.ensures ∙ c.in-Some.is in
    let low = slice_get_within endings number c.in-Some.ending at in
    let many = c.requires.as_many in
    omega (arith, low, many)

pub returns-clause-text : goal.returns-clause-text
returns-clause-text g c =
    let number = c.args.number in
    let script = fields_of c.args.telling.now.query.now.race.now in
    let frames = frames_in c.args.telling.now.list.now in
    let form = c.args.telling.now.query.now.form in
    let endings = endings_in c.args.telling.now.list.now.words in
    let texts = map string_bytes c.args.texts.now.lines.items in
    let at : slice_get endings number ≡ Some c.in-Some.ending = sym c.in_ok-ending.ensures ∙ c.in-Some.is in
    let made = c.in_ok-add_if_first.ensures in
    let text_is = sym (made.1 ∙ ap (λ (t : List ℕ). t ++ made.0) c.new-text.ensures.bytes) in (
      slice_get_within endings number c.in-Some.ending at,
      subst (λ (t : List ℕ). IsFirstText (IsOutcomeText frames form script endings) (is_repeat texts number) (text_at texts number)
          number t) text_is made.2,
    )

pub returns-in_default-clause-none : goal.returns-in_default-clause-none
returns-in_default-clause-none g c =
    let number = c.args.number in
    let endings = endings_in c.args.telling.now.list.now.words in
    let none : slice_get endings number ≡ None = sym c.in_ok-ending.ensures ∙ c.in_default.is in
    past_all endings number none
