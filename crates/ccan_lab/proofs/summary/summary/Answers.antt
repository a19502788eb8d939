use Rattle.std.proofs.Common.{◌≡◌, ◌++◌, List, ℕ, length, min, append_assoc, ap, ◌∙◌}
use Rattle.ccan_outcomes.specs.RaceScript.{fields_of}
use Rattle.ccan_outcomes.specs.OutcomeWords.{endings_in}
use Rattle.ccan_lab.specs.Counting.{count_text, greatest}
use Rattle.ccan_lab.specs.Summary.{choice_parts, closing_text, name_in, same_parts}
use Rattle.ccan_lab.proofs.summary.summary.Goals as goal

pub returns : goal.returns
returns c =
    let script = fields_of c.args.race.now in
    let endings = endings_in c.args.words.now in
    let added = c.in_ok-add_parts.ensures in
    let number : c.count-number.result ≡ min (length endings) greatest = c.count-number.ensures in
    let heading = count_text c.count-number.result in
    let same = same_parts added.choices in
    let others = choice_parts added.choices (name_in script) in
    let closing = closing_text c.count-number.result in
    record {
      choices = added.choices;
      has_choices = added.has_choices;
      text_is =
          c.in_ok-add_closing.ensures
          ∙ ap (λ (t : List ℕ). t ++ closing)
          (added.new_is ∙ ap (λ (t : List ℕ). t ++ (same ++ others)) c.in_ok-text.ensures)
          ∙ append_assoc heading (same ++ others) closing
          ∙ ap (λ (t : List ℕ). heading ++ t) (append_assoc same others closing)
          ∙ (λ i. count_text (number i) ++ (same ++ (others ++ closing_text (number i))));
    }
