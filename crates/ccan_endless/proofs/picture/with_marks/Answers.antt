use Rattle.ccan_ram.specs.declared.flag.Flag.TheVariants.{NewDat, MsgLst, IntPnd, TxRqst, MsgVal}
use Rattle.std.proofs.Common.{◌∙◌}
use Rattle.ccan_endless.proofs.MarkedFlags.{marked}
use Rattle.ccan_endless.proofs.picture.with_marks.Goals as goal

pub with_bit-requires-clause-below : goal.with_bit-requires-clause-below
with_bit-requires-clause-below c = c.requires.below NewDat

pub with_bit-requires-2-clause-below : goal.with_bit-requires-2-clause-below
with_bit-requires-2-clause-below c = c.requires.below MsgLst

pub with_bit-requires-3-clause-below : goal.with_bit-requires-3-clause-below
with_bit-requires-3-clause-below c = c.requires.below IntPnd

pub with_bit-requires-4-clause-below : goal.with_bit-requires-4-clause-below
with_bit-requires-4-clause-below c = c.requires.below TxRqst

pub with_bit-requires-5-clause-below : goal.with_bit-requires-5-clause-below
with_bit-requires-5-clause-below c = c.requires.below MsgVal

pub returns-clause-value : goal.returns-clause-value
returns-clause-value c r is e =
    (λ i. record {
      newdat = c.with_bit.ensures.value i;
      msglst = c.with_bit-2.ensures.value i;
      intpnd = c.with_bit-3.ensures.value i;
      txrqst = c.with_bit-4.ensures.value i;
      msgval = c.with_bit-5.ensures.value i;
    })
    ∙ marked c.args.place c.args.marks c.args.registers r is e
