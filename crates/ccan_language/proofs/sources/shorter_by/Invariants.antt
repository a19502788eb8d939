use Rattle.std.proofs.Common.{◌≡◌, ◌≤◌, List, length, take}
use Rattle.ccan_language.specs.declared.letter.Letter.{Letter}
use Rattle.ccan_language.specs.Words.{with_letters}
use Rattle.ccan_language.proofs.sources.shorter_by.Given as goal

abbrev pub invariant-loop-count : goal.invariant-loop-count
invariant-loop-count l = record {
  few : l.count ≤ length l.letters;
  right : (shorter : List Letter) → with_letters (take l.count l.letters) shorter ≡ l.left.items
      → with_letters l.letters shorter ≡ l.word;
  complete : (shorter : List Letter) → with_letters l.letters shorter ≡ l.word
      → with_letters (take l.count l.letters) shorter ≡ l.left.items;
}

abbrev pub decreases-loop-count : goal.decreases-loop-count
decreases-loop-count l = l.count
