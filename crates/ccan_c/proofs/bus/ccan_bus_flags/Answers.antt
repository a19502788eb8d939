use Rattle.std.proofs.Common.{refl, sym, ◌∙◌}
use Rattle.ccan_c.specs.BusCall as bus_call
use Rattle.ccan_c.specs.Bus.{held_on}
use Rattle.ccan_c.proofs.Calls.{bus_looked, bus_refused, on_known, on_open, on_unknown}
use Rattle.ccan_c.proofs.bus.ccan_bus_flags.Goals as goal

pub returns-in_default-clause-call : goal.returns-in_default-clause-call
returns-in_default-clause-call c =
    bus_refused (bus_call.flags c.args.flag 12 c.args.out.now) (held_on c.args.bus.now)
    (sym c.is_open.ensures ∙ c.if-not-is_open.false)
    (λ old. refl) (λ held past led. on_unknown _ _ _ c.in_default.ensures (record { code_is = refl; quiet = refl; leaves = refl }))

pub returns-clause-call : goal.returns-clause-call
returns-clause-call c =
    on_open _ _ _ _ _ c.as_mut.ensures.value
    (bus_looked (bus_call.flags c.args.flag 0 c.flags.result) c.as_mut.result.now c.flags.new.self _ c.flags.ensures
    refl (λ past seen added led h. on_known _ _ _ _ c.in-Some.ensures (refl, h, refl)))
