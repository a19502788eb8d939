use Rattle.std.proofs.Common.{Contains, ◌≡◌, ◌++◌, List, ℕ, length, min, None, Some, slice_get, sym, ap, subst, ◌∙◌, arith}
use Rattle.ccan_outcomes.specs.RaceScript.{fields_of}
use Rattle.ccan_outcomes.specs.OutcomeWords.{endings_in}
use Rattle.ccan_lab.specs.Counting.{count_text, greatest}
use Rattle.ccan_lab.specs.Listing.{different_lines}
use Rattle.ccan_lab.specs.OutcomeText.{IsOutcomeText}
use Rattle.ccan_lab.specs.Rows.{rows_of}
use Rattle.ccan_lab.specs.Sorted.{AreAllInOrder, all_texts}
use Rattle.ccan_lab.specs.Telling.{frames_in}
use Rattle.ccan_lab.proofs.Listed.{has_choices, past_all, rows_there}
use Rattle.ccan_lab.proofs.Parts.{Lines}
use Rattle.ccan_lab.proofs.answer.found_text.Goals as goal

pub unreachable-requires : goal.unreachable-requires
unreachable-requires g c =
    let endings = endings_in c.args.telling.now.list.now.words in
    let none : slice_get endings c.args.number ≡ None = sym c.in_ok-ending.ensures ∙ c.in_default.is in
    let past = past_all endings c.args.number none in
    let within = c.requires.within in
    omega (arith, past, within)

pub returns : goal.returns
returns g c =
    let script = fields_of c.args.telling.now.query.now.race.now in
    let frames = frames_in c.args.telling.now.list.now in
    let form = c.args.telling.now.query.now.form in
    let endings = endings_in c.args.telling.now.list.now.words in
    let rows = c.in_ok-rows.rows.items in
    let sorted = c.in_ok-choices.choices.items in
    let choices = all_texts sorted in
    let ending = c.in-Some.ending in
    let number : c.count.result ≡ min (length endings) greatest = c.count.ensures in
    let ordered : AreAllInOrder rows choices =
    subst (λ (l : List (List (List ℕ))). AreAllInOrder l choices) c.as_slice.ensures.value c.in_ok-choices.ensures in
    let added = c.in_ok-add_outcome.ensures.0 in
    let at : slice_get endings c.args.number ≡ Some ending = sym c.in_ok-ending.ensures ∙ c.in-Some.is in
    let lines_are = c.as_str.ensures.value ∙ c.in_ok-lines.ensures
    ∙ ap (λ (l : List Lines). different_lines (all_texts l) (rows_of ending)) c.as_slice-2.ensures.value
    ∙ ap (different_lines choices) (sym (rows_there endings c.args.number ending at)) in
    record {
      choices = choices;
      has_choices = has_choices script (Contains endings) rows choices c.in_ok-rows.ensures.places
          c.in_ok-rows.ensures.lines ordered;
      outcome = added;
      is_one = subst (λ (lines : List ℕ). IsOutcomeText frames form script endings lines c.args.number added) lines_are
          c.in_ok-add_outcome.ensures.2;
      text_is = c.in_ok-add_outcome.ensures.1 ∙ (λ i. c.in_ok-text.ensures i ++ added)
          ∙ (λ i. count_text (number i) ++ added);
    }
