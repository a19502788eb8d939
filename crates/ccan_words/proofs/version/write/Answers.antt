use Rattle.std.proofs.Common.{refl, ◌∙◌, arith}
use Rattle.ccan_words.specs.declared.view.PortView.{PortView}
use Rattle.ccan_words.specs.Version.{with_note}
use Rattle.ccan_words.proofs.Seats.{only_holds}
use Rattle.ccan_words.proofs.Making.{written_none, written_still, written_more, next_still, long_enough}
use Rattle.ccan_words.proofs.version.write.Goals as goal

pub loop-i-init : goal.loop-i-init
loop-i-init g c = (refl, λ x e. written_none (g.L.Layout.form c.args.words.now.profile) c.args.version.now x _ e)

pub note-requires-clause-held : goal.note-requires-clause-held
note-requires-clause-held g c =
    let h = c.requires.ready in
    let ready = h.2 in
    let w = c.loop-i.invariant.1 h.0 h.1 in
    let y : PortView = with_note w.note h.0 in
    let room = ready.room in
    let top = ready.top in
    record {
      x = y;
      held = only_holds c.args.version.now.port y _ (c.next_word-value.ensures.same.1 ∙ w.view);
      next = ready.numbered;
      few = omega arith;
      up = long_enough _ _ w.full;
    }

pub loop-i-preserved : goal.loop-i-preserved
loop-i-preserved g c =
    let v = c.next_word-value.ensures in
    let n = c.note.ensures in
    let i = c.loop-i.invariant in
    let F = g.L.Layout.form c.args.words.now.profile in
    let z = c.args.version.now in (
      n.same ∙ (v.same.0 ∙ i.0),
      λ x e.
          written_more F z x c.loop-i.i c.next_word-value.result c.next_word-value.new.seat.me _
          (written_still F z x c.loop-i.i _ _ v.same.1 (i.1 x e))
          (next_still F z c.loop-i.i c.next_word-value.result _ _ v.same.1 v.value) n.told,
    )
