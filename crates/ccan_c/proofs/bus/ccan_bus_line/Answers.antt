use Rattle.std.proofs.Common.{refl}
use Rattle.ccan_c.specs.BusCall as bus_call
use Rattle.ccan_c.proofs.Calls.{bus_looked, on_open}
use Rattle.ccan_c.proofs.bus.ccan_bus_line.Goals as goal

pub returns-clause-call : goal.returns-clause-call
returns-clause-call c =
    on_open _ _ _ _ _ c.as_mut.ensures.value
    (bus_looked (bus_call.line 0 c.number_of.result) c.as_mut.result.now c.line.new.self _ c.line.ensures
    refl (λ past seen added led h. (refl, (c.line.result, c.number_of.ensures, h), refl)))
