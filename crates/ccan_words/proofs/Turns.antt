-- Turns that are lost, and one that succeeds: what the turns add, one after another, is what the port has seen more than
-- before.
use Rattle.std.proofs.Common.{append_assoc, ◌≡◌, ℕ, suc, ◌+◌, ◌*◌, ◌<◌, ◌≤◌, Bool, List, [], ◌++◌, sym}
use Rattle.std.proofs.Common.{refl, ap, ◌∙◌, subst, arith}
use Rattle.ccan_ram.specs.declared.handler_registers.HandlerRegisters.{HandlerRegisters}
use Rattle.ccan_object.specs.Profile.{objects_in}
use Rattle.ccan_ram.specs.declared.port.PortName.{PortName}
use Rattle.ccan_ram.specs.declared.event.Event.{Event}
use Rattle.ccan_ram.specs.History.{changes_by, History}
use Rattle.ccan_ram.specs.Terms.{Terms}
use Rattle.ccan_ram.specs.HandlerRegisters.{registers_at}
use Rattle.ccan_ram.specs.SharedRam.{Memory, terms_of}
use Rattle.ccan_words.specs.declared.view.PortView.{PortView}
use Rattle.ccan_words.specs.View.{see}
use Rattle.ccan_words.specs.Layout.{Form}
use Rattle.ccan_ram.specs.Sound.{IsSound}
use Rattle.ccan_words.specs.Plays.{Knows}
use Rattle.ccan_words.specs.Version.{IsSeatOf}
use Rattle.ccan_ram.specs.Picture.{pictured, Turn, LostTurns, IsPicture}
use Rattle.ccan_words.specs.Picture.{Turned, Posed, Missed, Added, ShowsAll}
use Rattle.ccan_ram.proofs.Histories.{begins_through}
use Rattle.ccan_ram.proofs.LostTurns.{few_lost, added_by, added_is, turn_of, own_changes}

module _ (contends : ℕ → ℕ → Bool) (memory : Memory) (p : PortName) where
  abbrev terms : Terms
  terms = terms_of contends memory p

  pub few_turns : (x : PortView) (i : ℕ) (added : List Event) (m : Knows) → Added memory.profile p x added m
      → LostTurns terms i x.seen added → i ≤ 2 * x.quota
  few_turns x i added m a lost = few_lost terms p i x.quota x.seen added lost a.own a.sound.few

  module _ {most : ℕ} (F : Form memory.profile most contends) (y : PortView) (m : Knows) (t : Turned F p y m) where
    abbrev pub last : List Event
    last = added_by contends memory p y.seen t.at t.end t.from t.own_from t.to t.own_to

    last_is : last ++ y.seen ≡ t.end
    last_is = added_is contends memory p y.seen t.at t.end t.from t.own_from t.to t.own_to

    abbrev the_turn : Turn terms y.seen last
    the_turn = turn_of contends memory p y.seen t.at t.end t.from t.own_from t.to t.own_to

    kept_changes : changes_by p t.end ≡ changes_by p y.seen
    kept_changes = own_changes contends memory p y.seen t.at t.end t.from t.own_from t.to t.own_to

  -- turns that were lost, and one more turn
  module _ {most : ℕ} (F : Form memory.profile most contends) (x : PortView) (earlier : List Event) (m n : Knows)
      (a : Added memory.profile p x earlier m) where
    abbrev y : PortView
    y = see (earlier ++ x.seen) x

    together : (t : Turned F p y n) → (last F y n t ++ earlier) ++ x.seen ≡ t.end
    together t = append_assoc (last F y n t) earlier x.seen ∙ last_is F y n t

    pub added_more : (t : Turned F p y n) → Added memory.profile p x (last F y n t ++ earlier) n
    added_more t = record {
      view = subst (λ (h : History). IsSeatOf p (see h x) n) (sym (together t)) t.view;
      sound = subst (λ (h : History). IsSound memory.profile x.quota h) (sym (together t)) t.sound;
      own = ap (changes_by p) (together t) ∙ (kept_changes F y n t ∙ a.own);
    }

    pub lost_more : (i : ℕ) (t : Missed F p y n) → LostTurns terms i x.seen earlier
        → LostTurns terms (i + 1) x.seen (last F y n t.turn ++ earlier)
    lost_more i t lost =
        let next : suc i ≡ i + 1 = omega arith in
        subst (λ (k : ℕ). LostTurns terms k x.seen (last F y n t.turn ++ earlier)) next (
          last F y n t.turn,
          earlier,
          refl,
          record {
            turn = the_turn F y n t.turn;
            other = t.other;
            changed = subst (λ (h : History). changes_by t.other y.seen < changes_by t.other h) (sym (last_is F y n t.turn))
                t.changed;
          },
          lost,
        )

    pub pictured_by : (i : ℕ) (numbers : List ℕ) (shown : HandlerRegisters) (t : Posed F p y numbers n)
        → LostTurns terms i x.seen earlier → i ≤ 2 * memory.quota → ShowsAll F numbers n shown
        → IsPicture terms shown x.seen (last F y n t.turn ++ earlier)
    pictured_by i numbers shown t lost few shows = record {
      times = i;
      lost = earlier;
      last = last F y n t.turn;
      few = few;
      whole = refl;
      lose = lost;
      turn = the_turn F y n t.turn;
      shows =
          let u = t.turn in
          shows p (see u.end y) u.at u.view
          (begins_through u.end _ u.at u.to (pictured p (objects_in memory.profile) u.at, refl)) u.sound_at t.each
          ∙ ap (registers_at memory.profile) u.from.1;
    }

pub added_none : (contends : ℕ → ℕ → Bool) (memory : Memory) (p : PortName) (x : PortView) (m : Knows) → IsSeatOf p x m
    → IsSound memory.profile x.quota x.seen
    → (added : List Event) × Added memory.profile p x added m × LostTurns (terms_of contends memory p) 0 x.seen added
added_none contends memory p x m view sound = ([], record { view = view; sound = sound; own = refl }, refl)
