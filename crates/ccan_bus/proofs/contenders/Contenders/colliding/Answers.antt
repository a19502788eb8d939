use Rattle.std.proofs.Common.{arith, ◌∙◌}
use Rattle.ccan_bus.proofs.Least.{all_seen}
use Rattle.ccan_bus.proofs.contenders.Contenders.colliding.Goals as goal

pub returns : goal.returns
returns c =
    λ node within. c.loop-place.invariant.so_far node within ∙ all_seen c.args.self.now.all.items c.loop-place.place node
    (omega (arith, c.len-place-end.ensures.value))
