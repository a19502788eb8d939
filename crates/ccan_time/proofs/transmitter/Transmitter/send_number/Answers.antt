use Rattle.std.proofs.Common.{◌≡◌, ◌-◌, refl, sym, ap, ◌∙◌, arith}
use Rattle.ccan_time.specs.declared.transmitter.Transmitter.{Transmitter}
use Rattle.ccan_object.specs.Bits.{bit}
use Rattle.ccan_time.specs.Bits.{lowest_bits}
use Rattle.ccan_time.specs.Transmitter.{transmitter_after, transmitter_with}
use Rattle.ccan_time.proofs.Sending.{after_more, after_none, highest_first, none_left}
use Rattle.ccan_time.proofs.transmitter.Transmitter.send_number.Goals as goal

pub loop-place-init : goal.loop-place-init
loop-place-init c = record { ready = c.requires.ready; value = refl; grown = omega arith }

pub send-requires-clause-ready : goal.send-requires-clause-ready
send-requires-clause-ready c = c.loop-place.invariant.ready

pub send-requires-clause-room : goal.send-requires-clause-room
send-requires-clause-room c =
    let room = c.requires.room in
    let grown = c.loop-place.invariant.grown in
    let some = c.loop-place-test.true in
    omega arith

pub loop-place-preserved : goal.loop-place-preserved
loop-place-preserved c =
    let n = c.args.number in
    let k = c.loop-place.place in
    let t = c.loop-place.self in
    let some = c.loop-place-test.true in
    let kept = c.loop-place.invariant in
    let grown = kept.grown in
    let more = c.send.ensures.grown in
    let sent = c.send.ensures.value ∙ ap (transmitter_with t) c.bit.ensures in
    record {
      ready = c.send.ensures.ready;
      value =
          ap (λ (u : Transmitter). transmitter_after u (lowest_bits (k - 1) n)) sent
          ∙ (sym (after_more t (bit n (k - 1)) (lowest_bits (k - 1) n))
          ∙ (ap (transmitter_after t) (sym (highest_first n k some)) ∙ kept.value));
      grown = omega arith;
    }

pub returns-clause-value : goal.returns-clause-value
returns-clause-value c =
    let k = c.loop-place.place in
    let none : k ≡ 0 = omega arith in
    let t = c.loop-place.self in
    sym (after_none t) ∙ (sym (ap (transmitter_after t) (none_left c.args.number k none)) ∙ c.loop-place.invariant.value)

pub returns-clause-ready : goal.returns-clause-ready
returns-clause-ready c = c.loop-place.invariant.ready

pub returns-clause-grown : goal.returns-clause-grown
returns-clause-grown c =
    let grown = c.loop-place.invariant.grown in
    omega arith
