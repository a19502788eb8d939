use Rattle.std.proofs.Common.{refl, ◌&&◌, ◌==◌}
use Rattle.ccan_wire.specs.Member.{member_at}
use Rattle.ccan_wire.specs.Packed.{rest_by}
use Rattle.ccan_wire.specs.Winner.{is_among}
use Rattle.ccan_wire.proofs.Members.{none_at_first}
use Rattle.ccan_wire.proofs.start.with_rest.Goals as goal

pub loop-place-init : goal.loop-place-init
loop-place-init c =
    record {
      all = refl;
      so_far = λ k.
          none_at_first k (is_among c.args.who.now k && rest_by (member_at c.args.members.now k) == c.args.number);
    }
