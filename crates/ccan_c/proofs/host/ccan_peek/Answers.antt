use Rattle.std.proofs.Common.{refl}
use Rattle.ccan_c.specs.HostCall as host_call
use Rattle.ccan_c.proofs.Calls.{host_looked, host_rests_as, on_false, on_open, on_true}
use Rattle.ccan_c.proofs.host.ccan_peek.Goals as goal

pub returns-in-Some-clause-call : goal.returns-in-Some-clause-call
returns-in-Some-clause-call c =
    let seen_at = c.in-Some.ensures.some in
    on_open _ _ _ _ _ c.as_mut.ensures.value
    (host_looked (host_call.peek c.args.object 0 c.of.result) c.as_mut.result.now c.peek.new.self _ seen_at.1
    (λ seen added h. on_true _ _ _ seen_at.0 (refl, (c.in-Some.found, c.of.ensures, h), refl)))

pub returns-in-None-clause-call : goal.returns-in-None-clause-call
returns-in-None-clause-call c =
    let none = c.in-None.ensures.none in
    on_open _ _ _ _ _ c.as_mut.ensures.value
    (host_rests_as (host_call.peek c.args.object 11 c.args.out.now) c.as_mut.result.now c.peek.new.self none.1
    (on_false _ _ _ none.0 (record { code_is = refl; quiet = refl; leaves = refl })))
