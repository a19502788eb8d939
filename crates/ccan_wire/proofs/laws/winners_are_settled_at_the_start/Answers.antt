use Rattle.std.proofs.Common.{subst}
use Rattle.ccan_wire.specs.Start.{Starts}
use Rattle.ccan_wire.specs.Wire.{start_of}
use Rattle.ccan_wire.proofs.Settled.{still_won}
use Rattle.ccan_wire.proofs.laws.winners_are_settled_at_the_start.Goals as goal

pub returns : goal.returns
returns c = λ m other wire later winner sender a settled part left b.
    still_won m other winner (subst (λ s. Starts m s) settled a.starts) sender part left (start_of later) b.starts
