use Rattle.std.proofs.Common.{◌≤◌, ℕ, List, length, get_or, sym, ap, ◌∙◌, arith}
use Rattle.std.specs.List.{flat_map}
use Rattle.std.proofs.lemmas.List.{take_all}
use Rattle.ccan_time.specs.declared.transmitter.Transmitter.{Transmitter}
use Rattle.ccan_time.specs.Bits.{lowest_bits}
use Rattle.ccan_time.specs.Transmitter.{transmitter_after}
use Rattle.ccan_time.proofs.Sending.{after_none, bytes_more}
use Rattle.ccan_time.proofs.transmitter.Transmitter.send_bytes.Goals as goal

pub loop-byte-init : goal.loop-byte-init
loop-byte-init c = record { ready = c.requires.ready; value = sym (after_none c.args.self.now); grown = omega arith }

pub send_number-requires-clause-ready : goal.send_number-requires-clause-ready
send_number-requires-clause-ready c = c.loop-byte.invariant.ready

pub send_number-requires-clause-room : goal.send_number-requires-clause-room
send_number-requires-clause-room c =
    let room = c.requires.room in
    let few = c.requires.few in
    let low = c.loop-byte-test.true in
    let grown = c.loop-byte.invariant.grown in
    omega arith

pub loop-byte-preserved : goal.loop-byte-preserved
loop-byte-preserved c =
    let kept = c.loop-byte.invariant in
    let bytes = c.args.bytes.now in
    let k = c.loop-byte.byte-index in
    let low = c.loop-byte-test.true in
    let grown = kept.grown in
    let more = c.send_number.ensures.grown in
    record {
      ready = c.send_number.ensures.ready;
      value =
          c.send_number.ensures.value
          ∙ (ap (λ n. transmitter_after c.loop-byte.self (lowest_bits 8 n)) c.from.ensures
          ∙ (ap (λ (t : Transmitter). transmitter_after t (lowest_bits 8 (get_or bytes k 0))) kept.value
          ∙ sym (bytes_more c.args.self.now bytes k low)));
      grown = omega arith;
    }

pub returns-clause-value : goal.returns-clause-value
returns-clause-value c =
    let bytes = c.args.bytes.now in
    let k = c.loop-byte.byte-index in
    let most = c.loop-byte.auto.byte-index-end in
    let all : length bytes ≤ k = omega arith in
    c.loop-byte.invariant.value
    ∙ ap (λ (l : List ℕ). transmitter_after c.args.self.now (flat_map (lowest_bits 8) l)) (take_all k bytes all)

pub returns-clause-ready : goal.returns-clause-ready
returns-clause-ready c = c.loop-byte.invariant.ready

pub returns-clause-grown : goal.returns-clause-grown
returns-clause-grown c =
    let grown = c.loop-byte.invariant.grown in
    let few = c.requires.few in
    let most = c.loop-byte.auto.byte-index-end in
    omega arith
