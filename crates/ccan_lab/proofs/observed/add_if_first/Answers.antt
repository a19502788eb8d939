use Rattle.std.proofs.Common.{◌≡◌, false, ℕ, List, map, ap, sym, ◌∙◌, subst, string_bytes, rules}
use Rattle.std.proofs.lemmas.Result.{on_ok_weaker}
use Rattle.ccan_outcomes.specs.RaceScript.{fields_of}
use Rattle.ccan_outcomes.specs.OutcomeWords.{endings_in}
use Rattle.ccan_lab.specs.Observed.{is_repeat, text_at}
use Rattle.ccan_lab.specs.OutcomeText.{IsOutcomeText}
use Rattle.ccan_lab.specs.Telling.{frames_in}
use Rattle.ccan_lab.proofs.Apart.{first_text, text_in}
use Rattle.ccan_lab.proofs.observed.add_if_first.Goals as goal

pub returns : goal.returns
returns g c =
    let texts = c.args.texts.now.lines.items in
    let number = c.args.number in
    let script = fields_of c.args.telling.now.query.now.race.now in
    let frames = frames_in c.args.telling.now.list.now in
    let form = c.args.telling.now.query.now.form in
    let keys = endings_in c.args.telling.now.list.now.words in
    let repeat = is_repeat (map string_bytes texts) number in
    let lines = text_at (map string_bytes texts) number in
    let first : repeat ≡ false = search rules in
    let shown = c.index.result.now in
    let within = c.requires.within in
    let lines_are : c.as_str-lines.result.now ≡ lines =
    c.as_str-lines.ensures.value ∙ ap string_bytes c.index.ensures ∙ sym (text_in texts number shown within) in
    on_ok_weaker c.add_outcome.result (λ (added, text_is, is).
    let told : IsOutcomeText frames form script keys lines number added =
    subst (λ (l : List ℕ). IsOutcomeText frames form script keys l number added) lines_are is in (
      added,
      text_is,
      first_text (IsOutcomeText frames form script keys) repeat lines number added first told,
    ))
    c.add_outcome.ensures
