use Rattle.std.proofs.Common.{arith}
use Rattle.ccan_ram.specs.declared.flag.Flag.TheVariants.{NewDat, IntPnd, TxRqst, MsgVal}
use Rattle.ccan_chip.specs.declared.interface.Interface.TheVariants.{One, Two}
use Rattle.ccan_chip.proofs.DcanPlaces.{at_interface, at_flag}
use Rattle.ccan_chip.proofs.dcan.register_at.Goals as goal

pub returns-in-256-to-278-clause-each : goal.returns-in-256-to-278-clause-each
returns-in-256-to-278-clause-each c =
    λ r has is.
    c.interface_at.ensures.each r
    (at_interface c.args.profile c.args.offset One r has is (omega arith) (omega arith))

pub returns-in-288-to-310-clause-each : goal.returns-in-288-to-310-clause-each
returns-in-288-to-310-clause-each c =
    λ r has is.
    c.interface_at-in-288-to-310.ensures.each r
    (at_interface c.args.profile c.args.offset Two r has is (omega arith) (omega arith))

pub returns-in-136-to-142-clause-each : goal.returns-in-136-to-142-clause-each
returns-in-136-to-142-clause-each c =
    λ r has is.
    c.register_at.ensures.each r
    (at_flag c.args.profile c.args.offset TxRqst r tt has is (omega arith) (omega arith))

pub returns-in-156-to-162-clause-each : goal.returns-in-156-to-162-clause-each
returns-in-156-to-162-clause-each c =
    λ r has is.
    c.register_at-in-156-to-162.ensures.each r
    (at_flag c.args.profile c.args.offset NewDat r tt has is (omega arith) (omega arith))

pub returns-in-176-to-182-clause-each : goal.returns-in-176-to-182-clause-each
returns-in-176-to-182-clause-each c =
    λ r has is.
    c.register_at-in-176-to-182.ensures.each r
    (at_flag c.args.profile c.args.offset IntPnd r tt has is (omega arith) (omega arith))

pub returns-in-196-to-202-clause-each : goal.returns-in-196-to-202-clause-each
returns-in-196-to-202-clause-each c =
    λ r has is.
    c.register_at-in-196-to-202.ensures.each r
    (at_flag c.args.profile c.args.offset MsgVal r tt has is (omega arith) (omega arith))
