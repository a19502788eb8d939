use Rattle.std.proofs.Common.{refl}
use Rattle.ccan_registers.specs.Register.{at_register}
use Rattle.ccan_c.specs.HostCall as host_call
use Rattle.ccan_c.proofs.Calls.{host_looked, on_open}
use Rattle.ccan_c.proofs.host.ccan_read8.Goals as goal

pub returns-clause-call : goal.returns-clause-call
returns-clause-call c =
    let run = c.read_byte-told in
    on_open _ _ _ _ _ c.as_mut.ensures.value
    (host_looked (host_call.read8 c.args.offset c.read_byte_out.result c.read_byte_out.new.out) c.as_mut.result.now
    run.new.self _ run.ensures
    (λ seen added h. ((at_register run.result, h, c.read_byte_out.ensures.code, c.read_byte_out.ensures.read), refl)))
