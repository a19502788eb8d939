use Rattle.std.proofs.Common.{arith, ap, length}
use Rattle.ccan_bus.specs.Bus.{is_on_now}
use Rattle.ccan_bus.proofs.Rounds.{contenders_done}
use Rattle.ccan_bus.proofs.bus.Bus.contenders.Goals as goal

pub returns : goal.returns
returns c =
    contenders_done (is_on_now c.args.self.now) c.args.self.now.loaded c.args.line.now _ c.loop-place.place
    (omega (arith, ap length c.sends-sends.ensures.value)) c.loop-place.invariant.so_far
