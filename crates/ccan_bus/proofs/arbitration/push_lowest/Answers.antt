use Rattle.std.proofs.Common.{arith, refl}
use Rattle.ccan_bus.proofs.Order.{push_step, push_end}
use Rattle.ccan_bus.proofs.arbitration.push_lowest.Goals as goal

pub loop-done-preserved : goal.loop-done-preserved
loop-done-preserved c =
    record {
      room = omega arith;
      len = omega arith;
      rest =
          rw c.push.ensures.items (push_step _ _ c.args.count c.loop-done.done c.args.number _ c.loop-done-test.true refl
          c.loop-done.invariant.rest);
    }

pub returns : goal.returns
returns c =
    record {
      items = push_end _ _ c.args.count c.loop-done.done c.args.number c.loop-done-test.false c.loop-done.invariant.rest;
      len = omega arith;
    }
