-- A picture at a port, as the port's memory promises it.
use Rattle.std.proofs.Common.{◌≡◌, ℕ, Bool, List, ◌++◌, sym, refl, ap, ◌∙◌, subst}
use Rattle.ccan_ram.specs.declared.handler_registers.HandlerRegisters.{HandlerRegisters}
use Rattle.ccan_ram.specs.declared.event.Event.{Event}
use Rattle.ccan_ram.specs.SharedRam.{Memory, Pass, IsWithin, passes_of, terms_of}
use Rattle.ccan_words.specs.declared.port.Port.TheInside.{Inside}
use Rattle.ccan_words.specs.declared.view.PortView.{PortView}
use Rattle.ccan_ram.specs.History.{History}
use Rattle.ccan_words.specs.View.{see}
use Rattle.ccan_ram.specs.Sound.{IsSound}
use Rattle.ccan_words.specs.Version.{IsSeatOf}
use Rattle.ccan_ram.specs.Picture.{AddsPicture, IsPicture}
use Rattle.ccan_words.specs.Picture.{Added, PicturesIn}
use Rattle.ccan_words.proofs.Seats.{only_seen}
use Rattle.ccan_words.proofs.Ports.{WordSeat, IsPortOf, pass, with_seat, within, kept, same_port_as, seen_is}
use Rattle.ccan_words.proofs.Tables.{memory_is}

module _ (s : Inside) (i : IsPortOf s) {was : Pass} (is_was : pass s ≡ was) {memory : Memory}
    (of_memory : was.memory ≡ memory) where
  here : (pass s).memory ≡ memory
  here = memory_is is_was of_memory

  sound_here : IsSound memory.profile i.held.quota i.held.seen
  sound_here =
      subst (λ (m : Memory). IsSound m.profile i.held.quota i.held.seen) here
      (subst (λ (n : ℕ). IsSound s.key.profile n i.held.seen) (sym i.most) i.sound)

  quota_here : i.held.quota ≡ memory.quota
  quota_here = i.most ∙ ap (λ (m : Memory). m.quota) here

  -- what a picture asks of the port's seat
  pub can_picture : (x : PortView) × IsSeatOf s.name x s.seat.me × IsSound memory.profile x.quota x.seen
      × (x.quota ≡ memory.quota)
  can_picture = (i.held, i.view, sound_here, quota_here)

  module _ {contends : ℕ → ℕ → Bool} (to : WordSeat) (table : to.table_id ≡ s.seat.table_id) (shown : HandlerRegisters)
      (told : PicturesIn contends memory s.name shown s.seat.me to.me) where
    at_port : (added : List Event) × Added s.key.profile s.name i.held added to.me
        × IsPicture (terms_of contends (pass s).memory s.name) shown i.held.seen added
    at_port =
        subst (λ (m : Memory). (added : List Event) × Added m.profile s.name i.held added to.me
        × IsPicture (terms_of contends m s.name) shown i.held.seen added) (sym here)
        (told i.held i.view sound_here quota_here)

    abbrev new : Pass
    new = pass (with_seat s to)

    pub picture_after : IsPortOf (with_seat s to)
    picture_after =
        let t = at_port in kept s i to (see (t.0 ++ i.held.seen) i.held) t.1.view refl t.1.sound t.1.own

    pictures : AddsPicture (passes_of contends (pass s)) (passes_of contends new) shown
    pictures =
        let t = at_port in
        let same = same_port_as s i to table in
        let all : new.seen ≡ t.0 ++ i.held.seen = only_seen s.name (see (t.0 ++ i.held.seen) i.held) to.me t.1.view in
        record {
          same = ap (λ (m : Memory). terms_of contends m s.name) same.memory;
          each = λ seen known.
              let is : seen ≡ i.held.seen = known.0 ∙ seen_is s i in (
                t.0,
                (
                  ap (λ (z : History). t.0 ++ z) is ∙ sym all,
                  subst (λ (m : Memory). IsWithin m (t.0 ++ seen)) (sym same.memory)
                      (subst (λ (z : History). IsWithin (pass s).memory (t.0 ++ z)) (sym is)
                      (within s i (t.0 ++ i.held.seen) t.1.sound)),
                ),
                subst (λ (z : History). IsPicture (terms_of contends (pass s).memory s.name) shown z t.0) (sym is) t.2,
              );
        }

    pub picture_adds : AddsPicture (passes_of contends was) (passes_of contends new) shown
    picture_adds = subst (λ (q : Pass). AddsPicture (passes_of contends q) (passes_of contends new) shown) is_was pictures
