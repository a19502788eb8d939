use Rattle.std.proofs.Common.{◌≡◌, true, false, sym, ap, ◌∙◌}
use Rattle.ccan_time.specs.declared.transmitter.Transmitter.{Transmitter}
use Rattle.ccan_time.specs.Bits.{lowest_bits}
use Rattle.ccan_time.specs.FrameBits.{extended_arbitration, standard_arbitration}
use Rattle.ccan_time.specs.Transmitter.{transmitter_after, transmitter_with}
use Rattle.ccan_time.proofs.Sending.{arbitration_by, sends_extended, sends_standard}
use Rattle.ccan_time.proofs.transmitter.Transmitter.send_arbitration.Goals.{then-xtd, else-xtd}
use Rattle.ccan_time.proofs.transmitter.Transmitter.send_arbitration.Goals as goal

pub returns-clause-value : goal.returns-clause-value
returns-clause-value c =
    let t = c.args.self.now in
    let f = c.args.frame.now in
    let n = c.from-id.result in
    let id : n ≡ f.id = c.from-id.ensures ∙ c.id.ensures.id in
    let rtr = c.rtr.ensures in
    c.send-2.ensures.value ∙ elim c.if-xtd.branch [
      | then-xtd w ↦
          let one = w.send.ensures.value ∙ ap (λ (u : Transmitter). transmitter_with u true) w.send_number.ensures.value in
          let two = w.send-then-xtd.ensures.value ∙ ap (λ (u : Transmitter). transmitter_with u true) one in
          let all = w.send_number-then-xtd.ensures.value
          ∙ ap (λ (u : Transmitter). transmitter_after u (lowest_bits 18 n)) two in
          ap (λ (u : Transmitter). transmitter_with u c.rtr.result) (w.self-is ∙ all) ∙ (sends_extended t n c.rtr.result
          ∙ ((λ i. transmitter_after t (extended_arbitration (id i) (rtr i)))
          ∙ ap (transmitter_after t) (arbitration_by f true (sym w.if-xtd.true ∙ c.xtd.ensures))))
      | else-xtd w ↦
          ap (λ (u : Transmitter). transmitter_with u c.rtr.result) (w.self-is ∙ w.send_number-else-xtd.ensures.value) ∙ (sends_standard t n c.rtr.result
          ∙ ((λ i. transmitter_after t (standard_arbitration (id i) (rtr i)))
          ∙ ap (transmitter_after t) (arbitration_by f false (sym w.if-xtd.false ∙ c.xtd.ensures))))
    ]
