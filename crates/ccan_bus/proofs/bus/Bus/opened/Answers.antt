use Rattle.std.proofs.Common.{refl}
use Rattle.ccan_bus.proofs.Pasts.{opens}
use Rattle.ccan_bus.proofs.bus.Bus.opened.Goals as goal

pub returns-clause-opened : goal.returns-clause-opened
returns-clause-opened c =
    opens _ c.args.nodes c.args.choice c.requires refl c.new_nodes.ensures.each c.new.ensures.listed refl refl refl
