use Rattle.std.proofs.Common.{◌≡◌, ℕ, Bool, true, false, cond, sym, ap, ◌∙◌}
use Rattle.ccan_object.specs.DataLength.{byte_count}
use Rattle.ccan_accept.specs.Frame.{data_count}
use Rattle.ccan_time.specs.Transmitter.{transmitter_after}
use Rattle.ccan_time.proofs.Sending.{data_is}
use Rattle.ccan_time.proofs.transmitter.Transmitter.send_data.Goals.{then-rtr, else-rtr}
use Rattle.ccan_time.proofs.transmitter.Transmitter.send_data.Goals as goal

counted : (rtr known : Bool) (dlc : ℕ) → known ≡ rtr → cond known 0 (byte_count dlc) ≡ data_count rtr dlc
counted rtr known dlc is = ap (λ b. cond b 0 (byte_count dlc)) is

pub returns-clause-value : goal.returns-clause-value
returns-clause-value c =
    let f = c.args.frame.now in
    let count : c.if-rtr.count ≡ data_count f.rtr f.dlc = elim c.if-rtr.branch [
      | then-rtr w ↦ w.count-is ∙ counted f.rtr true f.dlc (sym w.if-rtr.true ∙ c.rtr.ensures)
      | else-rtr w ↦
          w.count-is ∙ (w.byte_count-count.ensures.count ∙ (ap byte_count w.dlc.ensures
          ∙ counted f.rtr false f.dlc (sym w.if-rtr.false ∙ c.rtr.ensures)))
    ] in
    c.send_bytes.ensures.value
    ∙ ap (transmitter_after c.args.self.now) (data_is f c.if-rtr.count c.bytes.result count c.bytes.ensures.bytes)
