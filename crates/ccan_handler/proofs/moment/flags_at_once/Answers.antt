use Rattle.std.proofs.Common.{◌<◌, ◌^◌, ℕ, sym, subst}
use Rattle.ccan_object.specs.Profile.{objects_in}
use Rattle.ccan_handler.proofs.Moments.{flags_of_picture}
use Rattle.ccan_handler.proofs.moment.flags_at_once.Goals as goal

pub returns : goal.returns
returns g c = record {
  adds = flags_of_picture c.args.flag c.of.result c.look_all.result c.look_all.ensures.pictures c.of.ensures;
  within = subst (λ (n : ℕ). n < 2 ^ objects_in (g.A.Access.passes c.args.access.now).terms.profile) (sym c.of.ensures)
      (c.look_all.ensures.within c.args.flag);
}
