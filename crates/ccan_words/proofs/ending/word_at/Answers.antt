use Rattle.std.proofs.Common.{arith}
use Rattle.std.specs.Slots.{slots_items}
use Rattle.ccan_words.proofs.LastWords.{at_read}
use Rattle.ccan_words.proofs.ending.word_at.Goals as goal

pub word-requires : goal.word-requires
word-requires g c = let place = c.requires.place in let size = c.requires.size in (omega arith, c.requires.full)

pub returns : goal.returns
returns g c = at_read (slots_items c.args.closed.now.words) c.args.place c.word.result c.word.ensures
