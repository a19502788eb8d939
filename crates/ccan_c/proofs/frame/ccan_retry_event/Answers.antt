use Rattle.std.proofs.Common.{Ok, Err, refl, sym, ◌∙◌}
use Rattle.ccan_c.specs.Bus.{held_on}
use Rattle.ccan_c.specs.FrameCall as frame_call
use Rattle.ccan_c.proofs.Calls.{frame_looked, frame_refused, on_known, on_open, on_unknown}
use Rattle.ccan_c.proofs.frame.ccan_retry_event.Goals as goal

pub returns-in_default : goal.returns-in_default
returns-in_default c =
    frame_refused (frame_call.retry c.args.lost.now 30) (held_on c.args.bus.now)
    (sym c.is_open.ensures ∙ c.if-not-is_open.false)
    (λ held state. on_unknown _ _ _ c.in_default.ensures.is (record { code_is = refl; quiet = refl; leaves = refl }))

pub returns-in-Ok : goal.returns-in-Ok
returns-in-Ok c =
    on_open _ _ _ _ _ c.as_mut.ensures.value
    (frame_looked (frame_call.retry c.args.lost.now 0) c.as_mut.result.now c.retry.new.self _ c.in-Ok.ensures
    (λ state seen added h. on_known _ _ _ _ c.in-Some.ensures.is ((Ok c.in-Ok.field-0, h, refl), refl)))

pub returns-in-Err : goal.returns-in-Err
returns-in-Err c =
    on_open _ _ _ _ _ c.as_mut.ensures.value
    (frame_looked (frame_call.retry c.args.lost.now 2) c.as_mut.result.now c.retry.new.self _ c.in-Err.ensures
    (λ state seen added h. on_known _ _ _ _ c.in-Some.ensures.is ((Err c.in-Err.field-0, h, refl), refl)))
