use Rattle.std.proofs.Common.{◌≡◌, ◌≤◌, length, take}
use Rattle.ccan_outcomes.specs.OutcomeWords.{endings_in}
use Rattle.ccan_lab.proofs.outcome_words.all_endings.Given as goal

-- the outcomes so far
abbrev pub invariant-loop-number : goal.invariant-loop-number
invariant-loop-number l = record {
  within : l.number ≤ length (endings_in l.words);
  are : l.endings.items ≡ take l.number (endings_in l.words);
}
