-- The look tells whether the chip is still there; the memory steps go on from it; and then the event is made.
use Rattle.std.proofs.Common.{ℕ, ◌≡◌, refl, sym, ap, subst, ◌∙◌}
use Rattle.ccan_ram.specs.declared.port.PortName.{PortName}
use Rattle.ccan_ram.specs.declared.sending.Sending.{Sending}
use Rattle.ccan_ram.specs.SharedRam.{Memory, terms_of}
use Rattle.ccan_bus.specs.declared.decision.Decision.{Decision}
use Rattle.ccan_bus.specs.Complete.{Completes}
use Rattle.ccan_endless.specs.Layout.{same_object}
use Rattle.ccan_chip.proofs.Ports.{sees_on}
use Rattle.ccan_wire.specs.Event.{event_of}
use Rattle.ccan_wire.specs.Wire.{start_of}
use Rattle.ccan_station.specs.Station.{due, ending, frame_won, left_by, sent_as, still_loaded}
use Rattle.ccan_station.proofs.station.Station.end.Goals as goal

pub returns-clause-ends : goal.returns-clause-ends
returns-clause-ends c =
    let looks = c.look_controller-found.ensures.looks in
    let looked = c.look_controller-found.new.self.port in
    let found = c.look_controller-found.result in
    let own = c.event-own.result in
    let on = c.args.wire.now in
    let between = c.complete_at_objects-end.new.chip.port in
    let end = c.complete_at_objects-end.result in
    let goes = c.complete_at_objects-end.ensures.goes.each looked.pass.seen (refl, c.look_controller-found.ensures.objects.sees) in
    let due_is : c.due-decided.result ≡ due own (still_loaded found c.args.self.now.loaded) (frame_won (start_of on)) =
    c.due-decided.ensures.value ∙ (λ i. due own (c.take.ensures.loaded i) (c.frame_on.ensures i)) in
    let sending_is = c.sent_as-sending.ensures ∙ ap sent_as c.take.ensures.loaded in
    let member_is = c.ending.ensures ∙ ap (λ u. ending u c.args.flaw) c.take.ensures.under_way in
    record {
      looked = looked;
      looks = record { adds = looks; quiet = c.look_controller-found.ensures.objects };
      own = c.event-own.ensures.is ∙ ap (event_of on c.args.place) member_is;
      between = between;
      rests = c.complete_at_objects-end.ensures.none;
      sees = sees_on between.pass _ goes.1;
      added = goes.0;
      adds = sym goes.1.0;
      completes =
          subst (λ (u : Memory × PortName × Sending × Decision × ℕ). Completes (terms_of same_object u.0 u.1) u.2 u.4
          looked.pass.seen goes.0 u.3 end)
          (λ i. (
            looks.same.memory i,
            (looks.same.port ∙ c.requires.bus) i,
            sending_is i,
            due_is i,
            (c.look_controller-found.ensures.settings i).tries,
          )) goes.2;
      left = c.settle.ensures.loaded ∙ ap (left_by own) c.take.ensures.loaded;
      notes = c.note-noted.ensures.notes;
    }
