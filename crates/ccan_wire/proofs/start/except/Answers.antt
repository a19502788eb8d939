use Rattle.std.proofs.Common.{refl, ◌&&◌, not}
use Rattle.ccan_wire.specs.Winner.{is_among}
use Rattle.ccan_wire.proofs.Members.{none_at_first}
use Rattle.ccan_wire.proofs.start.except.Goals as goal

pub loop-place-init : goal.loop-place-init
loop-place-init c =
    record { all = refl; so_far = λ k. none_at_first k (is_among c.args.who.now k && not (is_among c.args.those.now k)) }
