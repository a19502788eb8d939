use Rattle.std.proofs.Common.{refl}
use Rattle.ccan_c.specs.BusCall as bus_call
use Rattle.ccan_c.proofs.Calls.{bus_looked, on_open}
use Rattle.ccan_c.proofs.bus.ccan_bus_interrupt.Goals as goal

pub returns-clause-call : goal.returns-clause-call
returns-clause-call c =
    let run = c.interrupt_value-value in
    on_open _ _ _ _ _ c.as_mut.ensures.value
    (bus_looked (bus_call.interrupt 0 run.result.1) c.as_mut.result.now run.new.self _ run.ensures
    refl (λ past seen added led h. (refl, (run.result.0, h), refl)))
