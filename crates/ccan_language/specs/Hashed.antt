-- What is hashed of letters, and of what the tables of a graph find: one word of each. Equal ones have the same. Source: this
-- project's own.
use Rattle.std.specs.Prelude.{ℕ, ◌+◌, ◌*◌, ◌^◌, ◌≡◌, true}
use Rattle.std.proofs.Common.{ap}
use Rattle.std.specs.Hash as fed
use Rattle.ccan_language.specs.declared.letter.Letter.{Letter}
use Rattle.ccan_language.specs.declared.memo.Longer.{Longer}
use Rattle.ccan_language.specs.declared.memo.Pair.{Pair}
use Rattle.ccan_language.specs.declared.node.Edge.{Edge}
use Rattle.ccan_language.specs.declared.node.Node.{Node}
use Rattle.ccan_language.specs.declared.node.Node.TheVariants.{Nothing, End, Fork}
use Rattle.ccan_language.specs.contracts.letter.LetterPartialEq.TheImpl.{ghosts as letter_is}
use Rattle.ccan_language.specs.contracts.node.NodePartialEq.TheImpl.{ghosts as node_is}
use Rattle.ccan_language.specs.Equal.{same_letter, same_node}
use Rattle.ccan_language.specs.Hashing.{mixed}

-- two numbers of 32 bits as one word
abbrev pub joined : ℕ → ℕ → ℕ
joined high low = high * 2 ^ 32 + low

abbrev pub letter_word : Letter → ℕ
letter_word letter = joined letter.place letter.answer

-- of an edge its letter, and where it leads
abbrev pub edge_word : Edge → ℕ
edge_word edge = mixed (mixed 2 (letter_word edge.letter)) (joined edge.to edge.others)

abbrev pub node_word : Node → ℕ
node_word Nothing = 0
node_word End = 1
node_word (Fork edge) = edge_word edge

abbrev pub pair_word : Pair → ℕ
pair_word pair = mixed 0 (joined pair.first pair.second)

abbrev pub longer_word : Longer → ℕ
longer_word longer = mixed (mixed 0 longer.index) (letter_word longer.letter)

abbrev pub letter_hashed : Letter → fed.HashWrites
letter_hashed letter = fed.u64 (letter_word letter)

abbrev pub node_hashed : Node → fed.HashWrites
node_hashed node = fed.u64 (node_word node)

pub letters_hashed_alike : (a b : Letter) → letter_is.eq a b ≡ true → letter_hashed a ≡ letter_hashed b
letters_hashed_alike a b equal = ap letter_hashed (same_letter a b equal)

pub nodes_hashed_alike : (a b : Node) → node_is.eq a b ≡ true → node_hashed a ≡ node_hashed b
nodes_hashed_alike a b equal = ap node_hashed (same_node a b equal)
