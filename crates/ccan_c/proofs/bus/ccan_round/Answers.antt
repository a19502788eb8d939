use Rattle.std.proofs.Common.{◌≡◌, ◌≤◌, ◌<◌, ℕ, Bool, List, cond, true, false, nat_le, inl, inr, refl, sym, ap, subst, ◌∙◌, arith}
use Rattle.std.specs.Prelude.{is_some, if◌then◌else◌}
use Rattle.std.proofs.lemmas.Bool.Decides.{nat_tests}
use Rattle.ccan_accept.specs.declared.frame.Frame.{Frame}
use Rattle.ccan_bus.specs.declared.answer.RoundAnswer.{RoundAnswer}
use Rattle.ccan_bus.specs.declared.answer.RoundAnswer.TheVariants as round
use Rattle.ccan_bus.specs.RoundLine.{AreSenders}
use Rattle.ccan_chip.specs.declared.chip_report.ChipReport.{ChipReport}
use Rattle.ccan_line.specs.declared.line_answer.LineAnswer.TheVariants as answer
use Rattle.ccan_line.specs.Limits.{most_frames}
use Rattle.ccan_registers.specs.Frames.{StationState, at_rest}
use Rattle.ccan_c.specs.Answer.{code_of}
use Rattle.ccan_c.specs.BusCall as bus_call
use Rattle.ccan_c.specs.BusCall.{is_played}
use Rattle.ccan_c.specs.Bus.{held_on}
use Rattle.ccan_c.specs.Codes.{busy}
use Rattle.ccan_c.specs.Held.{station_of}
use Rattle.ccan_c.specs.Outcome.{code_of_round, is_lost}
use Rattle.ccan_c.proofs.Calls.{bus_did, bus_refused, bus_rests_as, on_false, on_known, on_open, on_true, on_unknown, still_named}
use Rattle.ccan_c.proofs.bus.ccan_round.Goals as goal

few_frames : (count : ℕ) → count ≤ 8 → nat_le count most_frames ≡ true
few_frames count few = grind (arith, nat_tests)

many_frames : (count : ℕ) → 8 < count → nat_le count most_frames ≡ false
many_frames count many = grind (arith, nat_tests)

-- a round that was played answers one of three codes
reply_played : (reply : RoundAnswer) → is_played (code_of (answer.Round reply)) ≡ true
reply_played round.Idle = refl
reply_played (round.Sent object finished) = refl
reply_played (round.Received stored) = refl
reply_played round.Passed = refl
reply_played round.Collision = refl
reply_played round.NoAck = refl
reply_played round.Fault = refl
reply_played (round.Looped object finished stored) = refl
reply_played (round.Busy object) = refl
reply_played (round.Spent object) = refl

either_played : (b : Bool) (p q : ℕ) → is_played p ≡ true → is_played q ≡ true → is_played (cond b p q) ≡ true
either_played true p q h k = h
either_played false p q h k = k

rests_when_played : (report : ChipReport) (result : ℕ) (old : StationState) → result ≡ code_of_round report
    → (if is_played result then at_rest else old) ≡ at_rest
rests_when_played report result old is =
    ap (λ (b : Bool). if b then at_rest else old)
    (ap is_played is
    ∙ either_played (is_lost report.noted) busy (code_of (answer.Round report.report.end.answer)) refl
    (reply_played report.report.end.answer))

pub returns-then-offers-gt-MAX_FRAMES-clause-call : goal.returns-then-offers-gt-MAX_FRAMES-clause-call
returns-then-offers-gt-MAX_FRAMES-clause-call c =
    bus_refused (bus_call.round c.args.offers.now c.args.fault 16 c.args.out.now) (held_on c.args.bus.now)
    (sym c.is_open.ensures ∙ c.if-not-is_open.false)
    (λ old. refl) (λ held past led. on_false _ _ _ (many_frames _ c.if-offers-gt-MAX_FRAMES.true)
    (record { code_is = refl; quiet = refl; leaves = refl }))

pub returns-in_default-clause-call : goal.returns-in_default-clause-call
returns-in_default-clause-call c =
    bus_refused (bus_call.round c.args.offers.now c.args.fault 17 c.args.out.now) (held_on c.args.bus.now)
    (sym c.is_open.ensures ∙ c.if-not-is_open.false)
    (λ old. refl) (λ held past led. on_true _ _ _ (few_frames _ c.if-offers-gt-MAX_FRAMES.false)
    (on_false _ _ _ c.in_default.ensures (record { code_is = refl; quiet = refl; leaves = refl })))

pub returns-in_default-fault_numbered-clause-call : goal.returns-in_default-fault_numbered-clause-call
returns-in_default-fault_numbered-clause-call c =
    bus_refused (bus_call.round c.args.offers.now c.args.fault 18 c.args.out.now) (held_on c.args.bus.now)
    (sym c.is_open.ensures ∙ c.if-not-is_open.false)
    (λ old. refl) (λ held past led. on_true _ _ _ (few_frames _ c.if-offers-gt-MAX_FRAMES.false)
    (on_true _ _ _ c.in-Some.ensures.0 (on_unknown _ _ _ c.in_default-fault_numbered.ensures
    (record { code_is = refl; quiet = refl; leaves = refl }))))

pub invariant_of-bus : goal.invariant_of-bus
invariant_of-bus c = (
  (c.args.bus.now.handle.tells ∙ ap is_some c.as_mut.ensures.value, tt),
  (
    still_named (held_on c.args.bus.now) c.as_mut.result.now c.play.new.self c.args.bus.now.named c.as_mut.ensures.value
        c.play.ensures.port,
    tt,
  ),
)

pub returns-in-Some-play-clause-call : goal.returns-in-Some-play-clause-call
returns-in-Some-play-clause-call c =
    let held = c.as_mut.result.now in
    let fault = c.in-Some-fault_numbered.fault in
    let read = c.in-Some.ensures in
    let some = c.in-Some-play.ensures.some in
    let line = some.1.0 in
    on_open _ _ _ _ _ c.as_mut.ensures.value
    (bus_did (bus_call.round c.args.offers.now c.args.fault c.code_of_round.result c.of.result) held c.play.new.self _ some.1.3
    (c.in-Some-play.ensures.rests ∙ sym (rests_when_played c.in-Some-play.report _ (station_of held) c.code_of_round.ensures))
    (λ past after seen added h. on_true _ _ _ (few_frames _ c.if-offers-gt-MAX_FRAMES.false)
    (on_true _ _ _ read.0 (on_known _ fault _ _ c.in-Some-fault_numbered.ensures (inl (record {
      round = line;
      is_round = record { sends = some.1.1 ∙ read.1; fault_is = some.1.2 };
      are_senders = subst (λ (xs : List (ℕ × Frame)). AreSenders held.nodes xs) read.1 some.0;
      report = c.in-Some-play.report;
      runs = h;
      code_is = c.code_of_round.ensures;
      shows = c.of.ensures;
    }))))))

pub returns-in-None-clause-call : goal.returns-in-None-clause-call
returns-in-None-clause-call c =
    let held = c.as_mut.result.now in
    let fault = c.in-Some-fault_numbered.fault in
    let read = c.in-Some.ensures in
    let none = c.in-None.ensures.none in
    on_open _ _ _ _ _ c.as_mut.ensures.value
    (bus_rests_as (bus_call.round c.args.offers.now c.args.fault 19 c.args.out.now) held c.play.new.self none.1
    refl (λ past led. on_true _ _ _ (few_frames _ c.if-offers-gt-MAX_FRAMES.false)
    (on_true _ _ _ read.0 (on_known _ fault _ _ c.in-Some-fault_numbered.ensures (inr (
      subst (λ (xs : List (ℕ × Frame)). AreSenders held.nodes xs → ⊥) read.1 none.0,
      record { code_is = refl; quiet = refl; leaves = refl },
    ))))))
