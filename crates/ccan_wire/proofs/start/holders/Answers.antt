use Rattle.std.proofs.Common.{refl, ◌==◌}
use Rattle.ccan_wire.specs.Member.{member_at}
use Rattle.ccan_wire.specs.Packed.{key_of}
use Rattle.ccan_wire.proofs.Members.{none_at_first}
use Rattle.ccan_wire.proofs.start.holders.Goals as goal

pub loop-place-init : goal.loop-place-init
loop-place-init c =
    record { all = refl; so_far = λ k. none_at_first k (key_of (member_at c.args.members.now k) == c.args.number) }
