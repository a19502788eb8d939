use Rattle.std.proofs.Common.{false, ap, ◌∙◌}
use Rattle.ccan_time.specs.declared.transmitter.Transmitter.{Transmitter}
use Rattle.ccan_time.specs.Bits.{lowest_bits}
use Rattle.ccan_time.specs.Transmitter.{transmitter_after, transmitter_with}
use Rattle.ccan_time.proofs.Sending.{sends_control}
use Rattle.ccan_time.proofs.transmitter.Transmitter.send_control.Goals as goal

pub returns-clause-value : goal.returns-clause-value
returns-clause-value c =
    let two = c.send-2.ensures.value ∙ ap (λ (t : Transmitter). transmitter_with t false) c.send.ensures.value in
    let code = c.from.ensures ∙ (c.get.ensures.code ∙ c.dlc.ensures) in
    c.send_number.ensures.value
    ∙ ((λ i. transmitter_after (two i) (lowest_bits 4 (code i))) ∙ sends_control c.args.self.now c.args.frame.now)
