use Rattle.std.proofs.Common.{arith}
use Rattle.ccan_ram.specs.declared.flag.Flag.TheVariants.{NewDat, IntPnd, TxRqst, MsgVal}
use Rattle.ccan_chip.specs.declared.interface.Interface.TheVariants.{One, Two}
use Rattle.ccan_chip.proofs.NarrowPlaces.{at_interface, at_flag}
use Rattle.ccan_chip.proofs.narrow.register_at.Goals as goal

pub returns-in-16-to-36-clause-each : goal.returns-in-16-to-36-clause-each
returns-in-16-to-36-clause-each c =
    λ r has is.
    c.interface_at.ensures.each r
    (at_interface c.args.profile c.args.offset One r has is (omega arith) (omega arith))

pub returns-in-64-to-84-clause-each : goal.returns-in-64-to-84-clause-each
returns-in-64-to-84-clause-each c =
    λ r has is.
    c.interface_at-in-64-to-84.ensures.each r
    (at_interface c.args.profile c.args.offset Two r has is (omega arith) (omega arith))

pub returns-in-128-to-134-clause-each : goal.returns-in-128-to-134-clause-each
returns-in-128-to-134-clause-each c =
    λ r has is.
    c.register_at.ensures.each r
    (at_flag c.args.profile c.args.offset TxRqst r tt has is (omega arith) (omega arith))

pub returns-in-144-to-150-clause-each : goal.returns-in-144-to-150-clause-each
returns-in-144-to-150-clause-each c =
    λ r has is.
    c.register_at-in-144-to-150.ensures.each r
    (at_flag c.args.profile c.args.offset NewDat r tt has is (omega arith) (omega arith))

pub returns-in-160-to-166-clause-each : goal.returns-in-160-to-166-clause-each
returns-in-160-to-166-clause-each c =
    λ r has is.
    c.register_at-in-160-to-166.ensures.each r
    (at_flag c.args.profile c.args.offset IntPnd r tt has is (omega arith) (omega arith))

pub returns-in-176-to-182-clause-each : goal.returns-in-176-to-182-clause-each
returns-in-176-to-182-clause-each c =
    λ r has is.
    c.register_at-in-176-to-182.ensures.each r
    (at_flag c.args.profile c.args.offset MsgVal r tt has is (omega arith) (omega arith))
