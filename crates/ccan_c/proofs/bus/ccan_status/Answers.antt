use Rattle.std.proofs.Common.{refl}
use Rattle.ccan_c.specs.BusCall as bus_call
use Rattle.ccan_c.proofs.Calls.{bus_looked, on_open}
use Rattle.ccan_c.proofs.bus.ccan_status.Goals as goal

pub returns-clause-call : goal.returns-clause-call
returns-clause-call c =
    let run = c.status-told in
    on_open _ _ _ _ _ c.as_mut.ensures.value
    (bus_looked (bus_call.status c.status_out.result c.status_out.new.out) c.as_mut.result.now run.new.self _ run.ensures
    refl (λ past seen added led h. ((run.result, h, c.status_out.ensures.code, c.status_out.ensures.read), refl)))
