use Rattle.ccan_chip.proofs.Since.{made_none}
use Rattle.ccan_chip.proofs.objects.Objects.new.Goals as goal

pub invariant_of-result : goal.invariant_of-result
invariant_of-result g c =
    record { belongs = c.args.lent.belongs; lent = c.requires.lent; none = made_none _ _ c.requires.none }
