use Rattle.std.proofs.Common.{arith, length}
use Rattle.std.proofs.lemmas.Bool.{ne_eqb}
use Rattle.std.proofs.lemmas.List.{take_all}
use Rattle.ccan_language.specs.Hashing.{word_of, written}
use Rattle.ccan_language.proofs.hashing.IndexHasherHasher.write.Goals as goal

pub returns-then-bytes-eq8 : goal.returns-then-bytes-eq8
unfolding word_of written
returns-then-bytes-eq8 c = rw (c.mixed-self.ensures, c.from_le_bytes-word.ensures, c.if-bytes-eq8.true)

pub returns : goal.returns
unfolding written
returns c =
    let bytes = c.args.bytes.now in
    let past = c.loop-byte-test.false in
    let all = take_all c.loop-byte.byte-index bytes (omega (arith, past)) in
    rw (ne_eqb (length bytes) 8 c.if-bytes-eq8.false, c.loop-byte.invariant, all)
