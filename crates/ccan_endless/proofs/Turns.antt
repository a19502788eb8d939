-- Turns that are lost, and one that succeeds: what the turns add, one after another, is what the port has seen more than
-- before.
use Rattle.std.proofs.Common.{append_assoc, ◌≡◌, ℕ, suc, ◌+◌, ◌*◌, ◌<◌, ◌≤◌, List, [], ◌++◌, sym}
use Rattle.std.proofs.Common.{refl, ap, ◌∙◌, subst, arith}
use Rattle.ccan_ram.specs.declared.handler_registers.HandlerRegisters.{HandlerRegisters}
use Rattle.ccan_ram.specs.declared.port.PortName.{PortName}
use Rattle.ccan_ram.specs.declared.event.Event.{Event}
use Rattle.ccan_ram.specs.History.{changes_by, History}
use Rattle.ccan_ram.specs.Terms.{Terms}
use Rattle.ccan_ram.specs.HandlerRegisters.{registers_at}
use Rattle.ccan_ram.specs.SharedRam.{Memory, terms_of}
use Rattle.ccan_ram.specs.Picture.{Turn, LostTurns, IsPicture}
use Rattle.ccan_ram.proofs.LostTurns.{few_lost, added_by, added_is, turn_of, own_changes}
use Rattle.ccan_endless.specs.declared.view.PortView.{PortView}
use Rattle.ccan_endless.specs.View.{see}
use Rattle.ccan_endless.specs.Layout.{same_object}
use Rattle.ccan_ram.specs.Sound.{IsSound}
use Rattle.ccan_endless.specs.Plays.{Knows}
use Rattle.ccan_endless.specs.Version.{IsSeatOf}
use Rattle.ccan_endless.specs.Picture.{Turned, Posed, Missed, Added, ShowsAll}

module _ (memory : Memory) (p : PortName) where
  abbrev terms : Terms
  terms = terms_of same_object memory p

  pub few_turns : (x : PortView) (i : ℕ) (added : List Event) (m : Knows) → Added memory.profile p x added m
      → LostTurns terms i x.seen added → i ≤ 2 * x.quota
  few_turns x i added m a lost = few_lost terms p i x.quota x.seen added lost a.own a.sound.few

  pub added_none : (x : PortView) (m : Knows) → IsSeatOf p x m → IsSound memory.profile x.quota x.seen
      → (added : List Event) × Added memory.profile p x added m × LostTurns terms 0 x.seen added
  added_none x m view sound = ([], record { view = view; sound = sound; own = refl }, refl)

  module _ (y : PortView) (m : Knows) (t : Turned memory.profile p y m) where
    abbrev pub last : List Event
    last = added_by same_object memory p y.seen t.at t.end t.from t.own_from t.to t.own_to

    last_is : last ++ y.seen ≡ t.end
    last_is = added_is same_object memory p y.seen t.at t.end t.from t.own_from t.to t.own_to

    abbrev the_turn : Turn terms y.seen last
    the_turn = turn_of same_object memory p y.seen t.at t.end t.from t.own_from t.to t.own_to

    kept_changes : changes_by p t.end ≡ changes_by p y.seen
    kept_changes = own_changes same_object memory p y.seen t.at t.end t.from t.own_from t.to t.own_to

  -- turns that were lost, and one more turn
  module _ (x : PortView) (earlier : List Event) (m n : Knows) (a : Added memory.profile p x earlier m) where
    abbrev y : PortView
    y = see (earlier ++ x.seen) x

    together : (t : Turned memory.profile p y n) → (last y n t ++ earlier) ++ x.seen ≡ t.end
    together t = append_assoc (last y n t) earlier x.seen ∙ last_is y n t

    pub added_more : (t : Turned memory.profile p y n) → Added memory.profile p x (last y n t ++ earlier) n
    added_more t = record {
      view = subst (λ (h : History). IsSeatOf p (see h x) n) (sym (together t)) t.view;
      sound = subst (λ (h : History). IsSound memory.profile x.quota h) (sym (together t)) t.sound;
      own = ap (changes_by p) (together t) ∙ (kept_changes y n t ∙ a.own);
    }

    pub lost_more : (i : ℕ) (t : Missed memory.profile p y n) → LostTurns terms i x.seen earlier
        → LostTurns terms (i + 1) x.seen (last y n t.turn ++ earlier)
    lost_more i t lost =
        let next : suc i ≡ i + 1 = omega arith in
        subst (λ (k : ℕ). LostTurns terms k x.seen (last y n t.turn ++ earlier)) next (
          last y n t.turn,
          earlier,
          refl,
          record {
            turn = the_turn y n t.turn;
            other = t.other;
            changed = subst (λ (h : History). changes_by t.other y.seen < changes_by t.other h) (sym (last_is y n t.turn))
                t.changed;
          },
          lost,
        )

    pub pictured_by : (i : ℕ) (values : List ℕ) (shown : HandlerRegisters) (t : Posed memory.profile p y values n)
        → LostTurns terms i x.seen earlier → i ≤ 2 * memory.quota → ShowsAll memory.profile values shown
        → IsPicture terms shown x.seen (last y n t.turn ++ earlier)
    pictured_by i values shown t lost few shows = record {
      times = i;
      lost = earlier;
      last = last y n t.turn;
      few = few;
      whole = refl;
      lose = lost;
      turn = the_turn y n t.turn;
      shows = shows t.turn.at t.turn.sound_at.records t.each ∙ ap (registers_at memory.profile) t.turn.from.1;
    }
