use Rattle.std.proofs.Common.{sym, ◌∙◌}
use Rattle.ccan_bus.proofs.Pasts.{on_same}
use Rattle.ccan_bus.proofs.bus.Bus.controller_is_on.Goals as goal

pub returns : goal.returns
returns c past led = c.is_on.ensures ∙ sym (on_same past c.args.self.now led 0)
