use Rattle.std.proofs.Common.{◌≡◌, ◌+◌, ◌≤◌, ◌++◌, length, refl, sym, ap, subst, ◌∙◌}
use Rattle.ccan_time.specs.declared.transmitter.Transmitter.{Transmitter}
use Rattle.ccan_time.specs.Bits.{lowest_bits}
use Rattle.ccan_time.specs.FrameBits.{bits_on_bus, checked_bits, crc_sequence}
use Rattle.ccan_time.specs.Transmitter.{silent_transmitter, transmitter_after}
use Rattle.ccan_time.proofs.Lengths.{bits_sent, few_on_bus, on_bus}
use Rattle.ccan_time.proofs.Registers.{length_lowest, register_holds}
use Rattle.ccan_time.proofs.Sending.{after_append}
use Rattle.ccan_time.proofs.frame_length.frame_bits.Goals.{After-send_number}
use Rattle.ccan_time.proofs.frame_length.frame_bits.Goals as goal

-- what was sent last is the CRC sequence
crc : (c : After-send_number)
    → lowest_bits 15 c.of_checked-transmitter.result.register ≡ crc_sequence c.args.frame.now
crc c =
    ap (λ (t : Transmitter). lowest_bits 15 t.register) c.of_checked-transmitter.ensures.value
    ∙ register_holds (checked_bits c.args.frame.now) silent_transmitter refl

exact : (c : After-send_number) → c.send_number.new.self.stuffing.bits + 10 ≡ length (bits_on_bus c.args.frame.now)
exact c =
    let f = c.args.frame.now in
    let sent = c.send_number.ensures.value
    ∙ ((λ i. transmitter_after (c.of_checked-transmitter.ensures.value i) ((ap (lowest_bits 15) c.from.ensures ∙ crc c) i))
    ∙ sym (after_append silent_transmitter (checked_bits f) (crc_sequence f))) in
    ap (λ (t : Transmitter). t.stuffing.bits + 10) sent
    ∙ (ap (λ n. n + 10) (bits_sent (checked_bits f ++ crc_sequence f)) ∙ sym (on_bus f))

pub returns-clause-exact : goal.returns-clause-exact
returns-clause-exact c = exact (goal.at.returns-clause-exact c).After-send_number

pub returns-clause-few : goal.returns-clause-few
returns-clause-few all =
    let c = (goal.at.returns-clause-few all).After-send_number in
    let long = sym (ap length (crc c)) ∙ length_lowest 15 c.of_checked-transmitter.result.register in
    subst (λ n. n ≤ 157) (sym (exact c)) (few_on_bus c.args.frame.now long)
