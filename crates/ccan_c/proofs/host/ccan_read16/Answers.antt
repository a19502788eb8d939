use Rattle.std.proofs.Common.{refl}
use Rattle.ccan_registers.specs.Register.{at_register}
use Rattle.ccan_c.specs.HostCall as host_call
use Rattle.ccan_c.proofs.Calls.{host_looked, on_open}
use Rattle.ccan_c.proofs.host.ccan_read16.Goals as goal

pub returns-clause-call : goal.returns-clause-call
returns-clause-call c =
    let run = c.read-told in
    on_open _ _ _ _ _ c.as_mut.ensures.value
    (host_looked (host_call.read16 c.args.offset c.read_out.result c.read_out.new.out) c.as_mut.result.now run.new.self _
    run.ensures (λ seen added h. ((at_register run.result, h, c.read_out.ensures.code, c.read_out.ensures.read), refl)))
