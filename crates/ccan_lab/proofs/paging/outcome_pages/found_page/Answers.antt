use Rattle.std.proofs.Common.{Contains, ◌++◌, List, ℕ, length, min, subst, ◌∙◌}
use Rattle.ccan_outcomes.specs.RaceScript.{fields_of}
use Rattle.ccan_outcomes.specs.OutcomeWords.{endings_in}
use Rattle.ccan_lab.specs.Paging.{AreShown}
use Rattle.ccan_lab.specs.Sorted.{AreAllInOrder, all_texts}
use Rattle.ccan_lab.specs.Summary.{same_parts}
use Rattle.ccan_lab.specs.Telling.{frames_in}
use Rattle.ccan_lab.proofs.Listed.{has_choices}
use Rattle.ccan_lab.proofs.Parts.{Lines}
use Rattle.ccan_lab.proofs.paging.outcome_pages.found_page.Goals as goal

pub returns-clause-shows : goal.returns-clause-shows
returns-clause-shows g c =
    let script = fields_of c.args.telling.now.query.now.race.now in
    let frames = frames_in c.args.telling.now.list.now in
    let endings = endings_in c.args.telling.now.list.now.words in
    let rows = c.in_ok-rows.rows.items in
    let choices = all_texts c.in_ok-choices.choices.items in
    let ordered : AreAllInOrder rows choices =
    subst (λ (l : List (List (List ℕ))). AreAllInOrder l choices) c.as_slice.ensures.value c.in_ok-choices.ensures in
    record {
      count_is = c.count.ensures;
      choices = choices;
      has_choices = has_choices script (Contains endings) rows choices c.in_ok-rows.ensures.places
          c.in_ok-rows.ensures.lines ordered;
      same_is = c.in_ok-add_same_parts.ensures
          ∙ (λ i. c.new-same.ensures.bytes i ++ same_parts (all_texts (c.as_slice-2.ensures.value i)));
      are_shown = subst (λ (l : List Lines). AreShown frames script endings (all_texts l) (min c.args.limit (length endings))
          c.in_ok-page.field-0.items) c.as_slice-3.ensures.value c.in_ok-page.ensures;
    }
