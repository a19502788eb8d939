-- The steps that are shown are those of the history that was found.
use Rattle.std.proofs.Common.{ap, refl, sym, ◌∙◌}
use Rattle.ccan_outcomes.specs.RaceScript.{fields_of}
use Rattle.ccan_outcomes.specs.OutcomeWords.{endings_in}
use Rattle.ccan_lab.specs.Listing.{different_lines}
use Rattle.ccan_lab.specs.Sorted.{all_texts}
use Rattle.ccan_lab.specs.Telling.{frames_in}
use Rattle.ccan_lab.proofs.Listed.{rows_there}
use Rattle.ccan_lab.proofs.paging.outcome_pages.outcome_at.Goals as goal

pub returns : goal.returns
returns g c =
    let script = fields_of c.args.telling.now.query.now.race.now in
    let frames = frames_in c.args.telling.now.list.now in
    let ending = c.args.ending.now in
    let steps = c.in_ok-history.history.steps.items in
    record {
      number_is = refl;
      lines_are = c.in_ok-different_lines.ensures
          ∙ ap (different_lines (all_texts c.args.choices.now))
          (sym (rows_there (endings_in c.args.telling.now.list.now.words) c.args.place ending c.requires.at));
      steps = steps;
      lead_to_it = c.in_ok-history.ensures.history;
      are_shown = c.in_ok-steps_shown.ensures;
    }
