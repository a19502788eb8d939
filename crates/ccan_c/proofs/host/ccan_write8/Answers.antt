use Rattle.ccan_registers.specs.Register.{at_register}
use Rattle.ccan_c.specs.HostCall as host_call
use Rattle.ccan_c.proofs.Calls.{host_did, on_open}
use Rattle.ccan_c.proofs.host.ccan_write8.Goals as goal

pub returns : goal.returns
returns c =
    let run = c.write_byte-told in
    on_open _ _ _ _ _ c.as_mut.ensures.value
    (host_did (host_call.write8 c.args.offset c.args.value c.code_of_offset.result) c.as_mut.result.now run.new.self _
    run.ensures.steps
    (λ seen added h. (at_register run.result, h, c.code_of_offset.ensures)))
