use Rattle.std.proofs.Common.{refl, sym, ◌∙◌}
use Rattle.ccan_c.specs.HostCall as host_call
use Rattle.ccan_c.specs.Host.{held_by}
use Rattle.ccan_c.proofs.Calls.{host_refused, host_rests, on_known, on_open, on_unknown}
use Rattle.ccan_c.proofs.host.ccan_get.Goals as goal

pub returns-in_default-clause-call : goal.returns-in_default-clause-call
returns-in_default-clause-call c =
    host_refused (host_call.get c.args.register 10 c.args.out.now) (held_by c.args.host.now)
    (sym c.is_open.ensures ∙ c.if-not-is_open.false)
    (λ held. on_unknown _ _ _ c.in_default.ensures (record { code_is = refl; quiet = refl; leaves = refl }))

pub returns-clause-call : goal.returns-clause-call
returns-clause-call c =
    on_open _ _ _ _ _ c.as_mut.ensures.value
    (host_rests (host_call.get c.args.register 0 c.get.result) c.as_mut.result.now
    (on_known _ _ _ _ c.in-Some.ensures (record { code_is = refl; quiet = refl; leaves = refl }, c.get.ensures)))
