use Rattle.std.proofs.Common.{arith}
use Rattle.ccan_words.specs.declared.view.PortView.{PortView}
use Rattle.ccan_words.specs.Version.{with_note}
use Rattle.ccan_words.proofs.Seats.{only_holds}
use Rattle.ccan_words.proofs.version.publish.Goals as goal

pub exchange-requires-clause-drafted : goal.exchange-requires-clause-drafted
exchange-requires-clause-drafted g c =
    let h = c.requires.ready in
    let ready = h.2 in
    let z = c.args.version.now in
    let w = c.write.ensures.written h.0 h.1 in
    let inside = (g.met.L.Layout.shows c.args.words.now.profile).inside z.object ready.held in
    let y : PortView = with_note w.note h.0 in (
      y,
      only_holds z.port y _ w.view,
      record {
        held = ready.held;
        room = ready.room;
        numbered = ready.numbered;
        at = ready.at;
        at_seen = ready.at_seen;
        old_is = ready.old_is;
        before_is = ready.before_is;
        fit = ready.fit;
        left = c.requires.content.1;
        full = w.full (omega arith);
        words = λ j l. w.words ready.at ready.at_seen ready.old_is j l;
      },
    )

pub returns-clause-told : goal.returns-clause-told
returns-clause-told g c x e =
    let w = c.write.ensures.written x e in
    record { note = w.note; written = c.write.new.seat.me; view = w.view; exchanges = c.exchange.ensures.told }
