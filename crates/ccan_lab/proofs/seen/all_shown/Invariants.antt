use Rattle.std.proofs.Common.{ℕ, ◌≡◌, ◌≤◌, Some, length, slice_get}
use Rattle.ccan_outcomes.specs.declared.ending.Ending.{Ending}
use Rattle.ccan_outcomes.specs.Observed.{observed_words}
use Rattle.ccan_lab.specs.Seen.{AreSaid, IsShownAt}
use Rattle.ccan_lab.proofs.seen.all_shown.Given as goal

abbrev pub invariant-loop-number : goal.invariant-loop-number
invariant-loop-number l = record {
  long : length l.shown.items ≡ l.number;
  many : length l.endings.items ≡ l.number;
  few : l.number ≤ length (observed_words l.words l.observed);
  are : (number : ℕ) (ending : Ending) → slice_get l.endings.items number ≡ Some ending
      → IsShownAt l.words l.observed number ending;
  said : AreSaid l.words l.shown.items l.endings.items;
}
