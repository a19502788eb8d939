use Rattle.std.proofs.Common.{false, ap, ◌∙◌}
use Rattle.ccan_time.specs.declared.transmitter.Transmitter.{Transmitter}
use Rattle.ccan_time.specs.FrameBits.{arbitration_field, control_field, data_field}
use Rattle.ccan_time.specs.Transmitter.{silent_transmitter, transmitter_after, transmitter_with}
use Rattle.ccan_time.proofs.Sending.{sends_checked}
use Rattle.ccan_time.proofs.transmitter.Transmitter.of_checked.Goals as goal

pub returns-clause-value : goal.returns-clause-value
returns-clause-value c =
    let f = c.args.frame.now in
    let one = c.send.ensures.value ∙ ap (λ (t : Transmitter). transmitter_with t false) c.new-transmitter.ensures.value in
    let two = c.send_arbitration.ensures.value ∙ ap (λ (t : Transmitter). transmitter_after t (arbitration_field f)) one in
    let three = c.send_control.ensures.value ∙ ap (λ (t : Transmitter). transmitter_after t (control_field f)) two in
    c.send_data.ensures.value ∙ (ap (λ (t : Transmitter). transmitter_after t (data_field f)) three
    ∙ sends_checked silent_transmitter f)
