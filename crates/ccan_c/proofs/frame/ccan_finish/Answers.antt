use Rattle.std.proofs.Common.{◌≡◌, ◌≤◌, ◌<◌, ℕ, true, false, refl, sym, ap, subst, ◌∙◌, arith}
use Rattle.std.specs.Prelude.{Option, is_some, nat_lt}
use Rattle.std.proofs.lemmas.Bool.Decides.{nat_tests}
use Rattle.ccan_registers.specs.ChipSteps.{terms_at}
use Rattle.ccan_registers.specs.Frames.{EndsOnChip}
use Rattle.ccan_wire.specs.declared.flaw.Flaw.{Flaw}
use Rattle.ccan_wire.specs.declared.wire.Wire.{Wire}
use Rattle.ccan_c.specs.Bus.{held_on}
use Rattle.ccan_c.specs.FrameCall as frame_call
use Rattle.ccan_c.specs.Held.{port_of, station_of}
use Rattle.ccan_c.specs.Wire.{is_flaw, most_members}
use Rattle.ccan_c.proofs.Calls.{frame_did, frame_refused, on_false, on_open, on_true, still_named}
use Rattle.ccan_c.proofs.frame.ccan_finish.Goals as goal

outside : (place : ℕ) → 32 ≤ place → nat_lt place most_members ≡ false
outside place far = grind (arith, nat_tests)

inside : (place : ℕ) → place < 32 → nat_lt place most_members ≡ true
inside place near = grind (arith, nat_tests)

no_flaw : (fault : ℕ) → 5 < fault → is_flaw fault ≡ false
no_flaw fault more = grind (arith, nat_tests)

some_flaw : (fault : ℕ) → fault ≤ 5 → is_flaw fault ≡ true
some_flaw fault few = grind (arith, nat_tests)

pub returns-in_default-clause-call : goal.returns-in_default-clause-call
returns-in_default-clause-call c =
    frame_refused (frame_call.finish c.args.wire.now c.args.place c.args.fault 28 c.args.out.now) (held_on c.args.bus.now)
    (sym c.is_open.ensures ∙ c.if-not-is_open.false)
    (λ held state. on_false _ _ _ c.in_default.ensures (record { code_is = refl; quiet = refl; leaves = refl }))

pub returns-then-place-ge32-clause-call : goal.returns-then-place-ge32-clause-call
returns-then-place-ge32-clause-call c =
    frame_refused (frame_call.finish c.args.wire.now c.args.place c.args.fault 29 c.args.out.now) (held_on c.args.bus.now)
    (sym c.is_open.ensures ∙ c.if-not-is_open.false)
    (λ held state. on_true _ _ _ c.in-Some.ensures.0 (on_false _ _ _ (outside c.args.place c.if-place-ge32.true)
    (record { code_is = refl; quiet = refl; leaves = refl })))

pub returns-then-fault-gt5-clause-call : goal.returns-then-fault-gt5-clause-call
returns-then-fault-gt5-clause-call c =
    frame_refused (frame_call.finish c.args.wire.now c.args.place c.args.fault 18 c.args.out.now) (held_on c.args.bus.now)
    (sym c.is_open.ensures ∙ c.if-not-is_open.false)
    (λ held state. on_true _ _ _ c.in-Some.ensures.0 (on_true _ _ _ (inside c.args.place c.if-place-ge32.false)
    (on_false _ _ _ (no_flaw c.args.fault c.if-fault-gt5.true) (record { code_is = refl; quiet = refl; leaves = refl }))))

pub invariant_of-bus : goal.invariant_of-bus
invariant_of-bus c = (
  (c.args.bus.now.handle.tells ∙ ap is_some c.as_mut.ensures.value, tt),
  (
    still_named (held_on c.args.bus.now) c.as_mut.result.now c.finish-ended.new.self c.args.bus.now.named c.as_mut.ensures.value
        c.finish-ended.ensures.port,
    tt,
  ),
)

pub returns-clause-call : goal.returns-clause-call
returns-clause-call c =
    let run = c.finish-ended in
    let held = c.as_mut.result.now in
    on_open _ _ _ _ _ c.as_mut.ensures.value
    (frame_did (frame_call.finish c.args.wire.now c.args.place c.args.fault c.code_of_end.result c.of.result) held run.new.self _
    run.ensures.steps run.ensures.bus
    (λ past seen added h. on_true _ _ _ c.in-Some.ensures.0 (on_true _ _ _ (inside c.args.place c.if-place-ge32.false)
    (on_true _ _ _ (some_flaw c.args.fault c.if-fault-gt5.false) (record {
      told = run.result;
      ends =
          subst (λ (u : Wire × Option Flaw). EndsOnChip (terms_at (port_of held)) held.chip.settings.tries u.0 c.args.place u.1
          (station_of held) seen added (station_of run.new.self) run.result)
          (λ i. (c.in-Some.ensures.1 i, c.flaw_in.ensures i)) h;
      code_is = c.code_of_end.ensures;
      shows = c.of.ensures;
      keeps = refl;
    })))))
