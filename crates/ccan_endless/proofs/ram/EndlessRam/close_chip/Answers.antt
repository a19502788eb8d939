-- The three seats are one in the end, whose view is the three ports' views side by side; `ChipEndings` says what the words then
-- leave, over what each port had seen.
use Rattle.std.proofs.Common.{◌≡◌, sym, ap, ◌∙◌, subst, Some}
use Rattle.std.specs.Slots.{slots_items}
use Rattle.ccan_object.specs.declared.profile.Profile.{Profile}
use Rattle.ccan_ram.specs.declared.port.PortName.{PortName}
use Rattle.ccan_ram.specs.ByPort.{only}
use Rattle.ccan_ram.specs.SharedRam.{Memory}
use Rattle.ccan_endless.specs.Version.{IsSeatOf}
use Rattle.ccan_endless.specs.Ending.{LeaveRecords}
use Rattle.ccan_endless.proofs.LastWords.{three}
use Rattle.ccan_endless.proofs.ChipEndings.{three_chips, chip_ended}
use Rattle.ccan_endless.proofs.ram.EndlessRam.close_chip.Goals as goal

pub returns : goal.returns
returns c =
    let profile = c.args.self.words.profile in
    let f = c.end-closed.ensures.values in
    let ws = slots_items c.end-closed.result.words in
    let a = c.into_seat-seat.ensures.held in
    let b = c.into_seat.ensures.held in
    let d = c.into_seat-2.ensures.held in
    let ca = c.into_seat-seat.ensures.chip in
    let cb = c.into_seat.ensures.chip in
    let cd = c.into_seat-2.ensures.chip in
    let r = c.requires in
    let own_a = subst (λ (p : PortName). IsSeatOf p a.0 c.into_seat-seat.result.me) r.if1.1 a.1 in
    let own_b = subst (λ (p : PortName). IsSeatOf p b.0 c.into_seat.result.me) r.if2.1 b.1 in
    let own_d = subst (λ (p : PortName). IsSeatOf p d.0 c.into_seat-2.result.me) r.bus.1 d.1 in
    let chip_a = subst (λ (p : PortName). c.into_seat-seat.result.chip ≡ only p (Some ca.0)) r.if1.1 ca.1 in
    let chip_b = subst (λ (p : PortName). c.into_seat.result.chip ≡ only p (Some cb.0)) r.if2.1 cb.1 in
    let chip_d = subst (λ (p : PortName). c.into_seat-2.result.chip ≡ only p (Some cd.0)) r.bus.1 cd.1 in
    let view = three _ _ _ _ _ a.0 b.0 d.0 own_a own_b own_d c.join.ensures.told c.join-2.ensures.told in
    let chips = three_chips _ _ _ _ _ ca.0 cb.0 cd.0 chip_a chip_b chip_d c.join.ensures.chip c.join-2.ensures.chip in
    let whole : c.key-profile.result.profile ≡ profile = c.key-profile.ensures.profile in
    chip_ended profile f.0 f.1.0 ws _ _ f.1.1 f.2 a.0 b.0 d.0 ca.0 cb.0 cd.0 view chips
    c.args.if1 c.args.if2 c.args.bus
    (record {
      memory = record { profile = c.key-profile.result.profile; records = c.last_records-records.result };
      controller = c.last_controller-controller.result;
    })
    (record { seen = record { port_is = r.if1.1; seen_is = sym a.2 }; whole_is = ca.2 })
    (record { seen = record { port_is = r.if2.1; seen_is = sym b.2 }; whole_is = cb.2 })
    (record { seen = record { port_is = r.bus.1; seen_is = sym d.2 }; whole_is = cd.2 })
    whole (whole ∙ sym (ap (λ (m : Memory). m.profile) r.if1.0))
    (subst (λ (u : Profile). LeaveRecords u ws c.last_records-records.result) whole c.last_records-records.ensures)
    c.last_controller-controller.ensures
