use Rattle.std.proofs.Common.{refl}
use Rattle.ccan_c.specs.FrameCall as frame_call
use Rattle.ccan_c.proofs.Calls.{frame_looked, on_open}
use Rattle.ccan_c.proofs.frame.ccan_power_down.Goals as goal

pub returns-clause-call : goal.returns-clause-call
returns-clause-call c =
    let run = c.power_down-told in
    on_open _ _ _ _ _ c.as_mut.ensures.value
    (frame_looked (frame_call.power_down c.power_out.result c.power_out.new.out) c.as_mut.result.now run.new.self _ run.ensures
    (λ past seen added h. ((run.result, h, c.power_out.ensures.code, c.power_out.ensures.power), refl)))
