use Rattle.std.proofs.Common.{◌∙◌}
use Rattle.ccan_chip.proofs.Since.{none_onward}
use Rattle.ccan_chip.proofs.objects.ObjectsAccess.change.Goals as goal

pub invariant_of-self : goal.invariant_of-self
invariant_of-self g c =
    let port = c.args.self.now in
    record {
      belongs = c.change.ensures.memory ∙ port.belongs;
      lent = port.lent;
      none = none_onward _ _ _ port.none c.change.ensures.chip;
    }
