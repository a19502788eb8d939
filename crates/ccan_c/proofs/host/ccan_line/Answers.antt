use Rattle.std.proofs.Common.{refl}
use Rattle.ccan_c.specs.HostCall as host_call
use Rattle.ccan_c.proofs.Calls.{host_looked, on_open}
use Rattle.ccan_c.proofs.host.ccan_line.Goals as goal

pub returns-clause-call : goal.returns-clause-call
returns-clause-call c =
    on_open _ _ _ _ _ c.as_mut.ensures.value
    (host_looked (host_call.line 0 c.number_of.result) c.as_mut.result.now c.line.new.self _ c.line.ensures
    (λ seen added h. (refl, (c.line.result, c.number_of.ensures, h), refl)))
