use Rattle.std.proofs.Common.{◌≡◌, ◌≤◌, ◌<◌, ◌⊎◌, ℕ, true, false, Ok, Err, inl, inr, refl, sym, ap, ◌∙◌, arith}
use Rattle.std.specs.Prelude.{is_some}
use Rattle.std.proofs.lemmas.Bool.Decides.{nat_tests}
use Rattle.ccan_line.specs.Limits.{most_groups}
use Rattle.ccan_c.specs.BusCall as bus_call
use Rattle.ccan_c.specs.Answer.{state_number}
use Rattle.ccan_c.specs.Bus.{held_on}
use Rattle.ccan_c.specs.Settings.{is_from_one_to}
use Rattle.ccan_c.proofs.Calls.{bus_did, bus_refused, on_false, on_open, on_true, still_named}
use Rattle.ccan_c.proofs.bus.ccan_recessive.Goals as goal

few_groups : (groups : ℕ) → (groups ≡ 0 → ⊥) → groups ≤ 10000 → is_from_one_to most_groups groups ≡ true
few_groups groups some few = grind (arith, nat_tests)

other_groups : (groups : ℕ) → (groups ≡ 0) ⊎ ((groups ≡ 0 → ⊥) × (10000 < groups)) → is_from_one_to most_groups groups ≡ false
other_groups groups (inl none) = rw none refl
other_groups groups (inr (some, many)) = grind (arith, nat_tests)

pub returns-then-groups-eq0-clause-call : goal.returns-then-groups-eq0-clause-call
returns-then-groups-eq0-clause-call c =
    bus_refused (bus_call.recessive c.args.groups 15 c.args.out.now) (held_on c.args.bus.now)
    (sym c.is_open.ensures ∙ c.if-not-is_open.false)
    (λ old. refl) (λ held past led. on_false _ _ _ (other_groups c.args.groups c.then-groups-eq0.either)
    (record { code_is = refl; quiet = refl; leaves = refl }))

pub invariant_of-bus : goal.invariant_of-bus
invariant_of-bus c = (
  (c.args.bus.now.handle.tells ∙ ap is_some c.as_mut.ensures.value, tt),
  (
    still_named (held_on c.args.bus.now) c.as_mut.result.now c.recessive.new.self c.args.bus.now.named c.as_mut.ensures.value
        c.recessive.ensures.steps.same.port,
    tt,
  ),
)

pub returns-in-Ok-clause-call : goal.returns-in-Ok-clause-call
returns-in-Ok-clause-call c =
    let out = c.state_number.result in
    on_open _ _ _ _ _ c.as_mut.ensures.value
    (bus_did (bus_call.recessive c.args.groups 0 out) c.as_mut.result.now c.recessive.new.self _ c.in-Ok.ensures.steps
    c.recessive.ensures.station (λ past after seen added h. on_true _ _ _ (few_groups c.args.groups c.if-groups-eq0.false c.if-groups-gt10000.false)
    (Ok c.in-Ok.made, h, (refl, c.state_number.ensures ∙ ap state_number c.state.ensures.value))))

pub returns-in-Err-clause-call : goal.returns-in-Err-clause-call
returns-in-Err-clause-call c =
    on_open _ _ _ _ _ c.as_mut.ensures.value
    (bus_did (bus_call.recessive c.args.groups 2 c.args.out.now) c.as_mut.result.now c.recessive.new.self _ c.in-Err.ensures.steps
    c.recessive.ensures.station (λ past after seen added h. on_true _ _ _ (few_groups c.args.groups c.if-groups-eq0.false c.if-groups-gt10000.false)
    (Err c.in-Err.field-0, h, refl)))
