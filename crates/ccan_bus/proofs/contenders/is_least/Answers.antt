use Rattle.ccan_bus.proofs.Least.{least_more, not_least}
use Rattle.ccan_bus.proofs.contenders.is_least.Goals as goal

pub returns-then-packed-own : goal.returns-then-packed-own
returns-then-packed-own c =
    not_least c.args.frame.now c.args.frames.now c.loop-other.other-index c.other-item.result c.loop-other-test.true
    c.other-item.is
    (rw (c.packed.ensures, c.packed-own.ensures) at c.if-packed-own.true)

pub loop-other-preserved : goal.loop-other-preserved
loop-other-preserved c =
    least_more c.args.frame.now c.args.frames.now c.loop-other.other-index c.other-item.result c.loop-other-test.true
    c.other-item.is
    (rw (c.packed.ensures, c.packed-own.ensures) at c.if-packed-own.false) c.loop-other.invariant
