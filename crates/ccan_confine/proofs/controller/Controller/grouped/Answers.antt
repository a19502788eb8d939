use Rattle.std.proofs.Common.{◌∙◌}
use Rattle.ccan_confine.specs.Controller.{counted}
use Rattle.ccan_confine.proofs.Controllers.{grouped_is}
use Rattle.ccan_confine.proofs.controller.Controller.grouped.Goals as goal

pub returns : goal.returns
returns c =
    let event = c.recovery_of-event.ensures.value in
    let e = c.recessive_groups.ensures in
    let counts = grouped_is c.args.groups c.args.self.counters c.recessive_groups.result e.ignored e.counted e.back in
    c.counted.ensures ∙ (λ i. counted (event i) (counts i) c.args.self)
