use Rattle.std.proofs.Common.{◌≡◌, ◌<◌, ◌+◌, ◌++◌, List, length}
use Rattle.ccan_language.specs.declared.letter.Letter.{Letter}
use Rattle.ccan_language.specs.Images.{IsImageFrom, word_image}
use Rattle.ccan_language.specs.Words.{IsWordFrom}
use Rattle.ccan_language.proofs.sources.source_of.Given as goal

abbrev pub invariant-loop : goal.invariant-loop
invariant-loop l = record {
  low : l.at + l.counter < length l.made;
  within : l.at < length l.graph.nodes.keys;
  image : IsImageFrom l.graph.nodes.keys l.images l.at l.left.items;
  goes_on : (tail : List Letter) → IsWordFrom l.graph.nodes.keys l.at tail → word_image l.images tail ≡ l.left.items
      → IsWordFrom l.graph.nodes.keys l.index (l.source.items ++ tail) × (word_image l.images (l.source.items ++ tail) ≡ l.word);
}
