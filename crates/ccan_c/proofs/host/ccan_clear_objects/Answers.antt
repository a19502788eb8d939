use Rattle.std.proofs.Common.{refl}
use Rattle.ccan_c.specs.HostCall as host_call
use Rattle.ccan_c.proofs.Calls.{host_looked, on_open}
use Rattle.ccan_c.proofs.host.ccan_clear_objects.Goals as goal

pub returns : goal.returns
returns c =
    let run = c.clear_objects-told in
    on_open _ _ _ _ _ c.as_mut.ensures.value
    (host_looked (host_call.clear c.code_of_access.result) c.as_mut.result.now run.new.self _ run.ensures
    (λ seen added h. ((run.result, h, c.code_of_access.ensures), refl)))
