use Rattle.std.proofs.Common.{◌≤◌, length}
use Rattle.ccan_outcomes.specs.RaceScript.{fields_of}
use Rattle.ccan_outcomes.specs.OutcomeWords.{endings_in}
use Rattle.ccan_lab.specs.Paging.{AreShown}
use Rattle.ccan_lab.specs.Sorted.{all_texts}
use Rattle.ccan_lab.specs.Telling.{frames_in}
use Rattle.ccan_lab.proofs.paging.outcome_pages.outcomes_shown.Given as goal

-- the outcomes so far
abbrev pub invariant-loop-place : goal.invariant-loop-place
invariant-loop-place g l = record {
  within : l.place ≤ length (endings_in l.telling.list.now.words);
  are : AreShown (frames_in l.telling.list.now) (fields_of l.telling.query.now.race.now) (endings_in l.telling.list.now.words)
      (all_texts l.choices) l.place
      l.shown.items;
}
