use Rattle.ccan_ram.specs.declared.flag.Flag.TheVariants.{NewDat, MsgLst, IntPnd, TxRqst, MsgVal}
use Rattle.ccan_ram.proofs.handler_registers.HandlerRegisters.with_flags.Goals as goal

pub with_bit-requires-clause-below : goal.with_bit-requires-clause-below
with_bit-requires-clause-below c = c.requires.below NewDat

pub with_bit-requires-2-clause-below : goal.with_bit-requires-2-clause-below
with_bit-requires-2-clause-below c = c.requires.below MsgLst

pub with_bit-requires-3-clause-below : goal.with_bit-requires-3-clause-below
with_bit-requires-3-clause-below c = c.requires.below IntPnd

pub with_bit-requires-4-clause-below : goal.with_bit-requires-4-clause-below
with_bit-requires-4-clause-below c = c.requires.below TxRqst

pub with_bit-requires-5-clause-below : goal.with_bit-requires-5-clause-below
with_bit-requires-5-clause-below c = c.requires.below MsgVal
