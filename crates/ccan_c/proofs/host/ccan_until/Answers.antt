use Rattle.std.proofs.Common.{refl, sym}
use Rattle.ccan_registers.specs.ChipSteps.{terms_at}
use Rattle.ccan_c.specs.Held.{port_of}
use Rattle.ccan_c.specs.HostCall as host_call
use Rattle.ccan_c.proofs.Calls.{host_looked, host_rests_as, on_known, on_open, on_true, wait_refused}
use Rattle.ccan_c.proofs.host.ccan_until.Goals as goal

pub returns-in-Ok-clause-call : goal.returns-in-Ok-clause-call
returns-in-Ok-clause-call c =
    let waits = c.in-Ok.ensures.waits in
    on_open _ _ _ _ _ c.as_mut.ensures.value
    (host_looked (host_call.until c.args.object c.args.flag c.args.turns 0 c.number_of.result) c.as_mut.result.now
    c.wait.new.self _ waits.4
    (λ seen added h. on_true _ _ _ waits.2 (on_known _ waits.0 _ _ (sym waits.1) (on_true _ _ _ waits.3
    (refl, (c.in-Ok.shown, c.number_of.ensures, h), refl)))))

pub returns-in-Err-clause-call : goal.returns-in-Err-clause-call
returns-in-Err-clause-call c =
    let refused = c.in-Err.ensures.refused in
    let held = c.as_mut.result.now in
    on_open _ _ _ _ _ c.as_mut.ensures.value
    (host_rests_as (host_call.until c.args.object c.args.flag c.args.turns c.in-Err.code c.args.out.now) held c.wait.new.self
    refused.0 (wait_refused (terms_at (port_of held)) held.chip.settings.tries held.chip.settings.map c.args.object c.args.flag c.args.turns c.in-Err.code
    c.args.out.now held.own (port_of held).whole refused.1))
