use Rattle.std.proofs.Common.{ℕ, ◌≡◌, Some, true, length, slice_get}
use Rattle.ccan_language.proofs.answers.first_marks.Given as goal

abbrev pub invariant-loop : goal.invariant-loop
invariant-loop l = record {
  long : length l.marks.items ≡ l.counter;
  none : (k : ℕ) → slice_get l.marks.items k ≡ Some true → ⊥;
}
