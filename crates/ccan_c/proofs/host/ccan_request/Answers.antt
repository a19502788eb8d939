use Rattle.ccan_registers.specs.Objects.{as_line}
use Rattle.ccan_c.specs.HostCall as host_call
use Rattle.ccan_c.proofs.Calls.{host_did, on_open}
use Rattle.ccan_c.proofs.host.ccan_request.Goals as goal

pub returns : goal.returns
returns c =
    let run = c.request-answer in
    on_open _ _ _ _ _ c.as_mut.ensures.value
    (host_did (host_call.request c.args.request c.code_of_transfer.result) c.as_mut.result.now run.new.self _ run.ensures
    (λ seen added h. (as_line run.result, c.code_of_transfer.ensures, h)))
