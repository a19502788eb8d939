use Rattle.std.proofs.Common.{arith}
use Rattle.ccan_ram.proofs.Registers.{shifted, doubled}
use Rattle.ccan_ram.proofs.handler_registers.with_bit.Goals as goal

pub returns-then-is_set-clause-value : goal.returns-then-is_set-clause-value
returns-then-is_set-clause-value c = rw c.if-is_set.true (shifted c.args.word c.args.place c.requires.below c.requires.within)

pub returns-then-is_set-clause-below : goal.returns-then-is_set-clause-below
returns-then-is_set-clause-below c =
    rw (shifted c.args.word c.args.place c.requires.below c.requires.within)
    (doubled c.args.word c.args.place c.requires.below _ (omega arith))
