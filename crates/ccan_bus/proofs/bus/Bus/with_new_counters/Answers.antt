use Rattle.std.proofs.Common.{[], sym, subst}
use Rattle.ccan_bus.specs.declared.bus.Bus.{Bus}
use Rattle.ccan_bus.specs.Bus.{LedTo}
use Rattle.ccan_bus.proofs.NewParts.{new_counters_is, new_counters_led}
use Rattle.ccan_bus.proofs.bus.Bus.with_new_counters.Goals as goal

-- src/renewed.rt:35:5
pub returns-clause-value : goal.returns-clause-value
returns-clause-value c = new_counters_is c.args.self.now c.new_nodes-bus.result _ _ _ c.new_nodes-bus.ensures.value

-- src/renewed.rt:35:5
pub returns-clause-led : goal.returns-clause-led
returns-clause-led c past led =
    subst (λ (bus : Bus). LedTo (record past { events = λ node. [] }) bus)
    (sym (new_counters_is c.args.self.now c.new_nodes-bus.result _ _ _ c.new_nodes-bus.ensures.value)) (new_counters_led past c.args.self.now led)
