use Rattle.std.proofs.Common.{◌≡◌, sym, ap, ◌∙◌, subst}
use Rattle.std.specs.Slots.{slots_items}
use Rattle.ccan_object.specs.declared.profile.Profile.{Profile}
use Rattle.ccan_ram.specs.declared.port.PortName.{PortName}
use Rattle.ccan_ram.specs.SharedRam.{Memory}
use Rattle.ccan_words.specs.Version.{IsSeatOf}
use Rattle.ccan_words.specs.Ending.{LeaveRecords}
use Rattle.ccan_words.proofs.LastWords.{three, ended}
use Rattle.ccan_words.proofs.ram.RamSharedRam.close.Goals as goal

pub returns : goal.returns
returns g c =
    let profile = c.args.self.words.profile in
    let F = g.L.Layout.form profile in
    let f = c.end-closed.ensures.values in
    let ws = slots_items c.end-closed.result.words in
    let a = c.into_seat-seat.ensures.held in
    let b = c.into_seat.ensures.held in
    let d = c.into_seat-2.ensures.held in
    let r = c.requires in
    let own_a = subst (λ (p : PortName). IsSeatOf p a.0 c.into_seat-seat.result.me) r.if1.1 a.1 in
    let own_b = subst (λ (p : PortName). IsSeatOf p b.0 c.into_seat.result.me) r.if2.1 b.1 in
    let own_c = subst (λ (p : PortName). IsSeatOf p d.0 c.into_seat-2.result.me) r.bus.1 d.1 in
    let view = three _ _ _ _ _ a.0 b.0 d.0 own_a own_b own_c c.join.ensures.told c.join-2.ensures.told in
    let whole : c.key-profile.result.profile ≡ profile = c.key-profile.ensures.profile in
    ended F f.0 f.1.0 ws _ _ c.args.if1 c.args.if2 c.args.bus a.0 b.0 d.0
    (record { profile = c.key-profile.result.profile; records = c.last_records-records.result }) f.1.1 f.2 view
    (record { port_is = r.if1.1; seen_is = sym a.2 }) (record { port_is = r.if2.1; seen_is = sym b.2 })
    (record { port_is = r.bus.1; seen_is = sym d.2 }) whole (whole ∙ sym (ap (λ (m : Memory). m.profile) r.if1.0))
    (subst (λ (u : Profile). LeaveRecords (g.L.Layout.form u) ws c.last_records-records.result) whole
    c.last_records-records.ensures)
