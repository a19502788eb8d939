use Rattle.std.proofs.Common.{◌≡◌, ℕ, List, Some, length, slice_get}
use Rattle.ccan_lab.specs.Sorted.{all_texts}
use Rattle.ccan_lab.specs.Summary.{AreInOrder}
use Rattle.ccan_lab.proofs.summary.all_in_order.Given as goal

-- the places so far
abbrev pub invariant-loop-rows : goal.invariant-loop-rows
invariant-loop-rows l = record {
  as_many : length l.sorted.items ≡ l.rows-index;
  are : (place : ℕ) (lines : List (List ℕ)) → slice_get (all_texts l.sorted.items) place ≡ Some lines
      → (rows : List (List ℕ)) → slice_get l.all place ≡ Some rows → AreInOrder rows lines;
}
