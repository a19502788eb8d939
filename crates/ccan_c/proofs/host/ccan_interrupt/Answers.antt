use Rattle.std.proofs.Common.{refl}
use Rattle.ccan_c.specs.HostCall as host_call
use Rattle.ccan_c.proofs.Calls.{host_looked, on_open}
use Rattle.ccan_c.proofs.host.ccan_interrupt.Goals as goal

pub returns-clause-call : goal.returns-clause-call
returns-clause-call c =
    on_open _ _ _ _ _ c.as_mut.ensures.value
    (host_looked (host_call.interrupt 0 c.interrupt.result) c.as_mut.result.now c.interrupt.new.self _ c.interrupt.ensures
    (λ seen added h. (refl, h, refl)))
