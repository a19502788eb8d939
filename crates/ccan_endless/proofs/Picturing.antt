-- Values of many words, and what they tell of one place of the history.
use native.Mathlib.Decide.{ℕ_discrete}
use mathlib.Core.Logic.{dite}
use Rattle.std.proofs.Common.{◌≡◌, ◌≢◌, ℕ, ◌+◌, ◌<◌, Bool, true, false, List, ◌++◌, get_or, sym}
use Rattle.std.proofs.Common.{refl, ◌∙◌, subst, arith}
use Rattle.ccan_object.specs.declared.profile.Profile.{Profile}
use Rattle.ccan_object.specs.Profile.{objects_in}
use Rattle.ccan_ram.specs.declared.port.PortName.{PortName}
use Rattle.ccan_ram.specs.History.{BeginsWith, History}
use Rattle.ccan_ram.specs.Picture.{pictured}
use Rattle.ccan_ram.proofs.Histories.{changes_later, begins_again, begins_through}
use Rattle.ccan_endless.specs.declared.view.PortView.{PortView}
use Rattle.ccan_endless.specs.View.{see}
use Rattle.ccan_endless.specs.Layout.{same_object, number_in}
use Rattle.ccan_ram.specs.Sound.{IsSound}
use Rattle.ccan_endless.specs.Rule.{IsHead}
use Rattle.ccan_endless.specs.Plays.{Knows, GoesOn, Watches}
use Rattle.ccan_endless.specs.Version.{IsSeatOf}
use Rattle.ccan_endless.specs.Picture.{HasNumber, Stood, Poses, Swept, Moved, Turned, Posed, Missed, TurnsIn}
use Rattle.ccan_ram.proofs.Standing.{another, stood_between}
use Rattle.ccan_endless.proofs.Histories.{unchanged}
use Rattle.ccan_endless.proofs.Seats.{only_holds, only_sees}
use Rattle.ccan_endless.proofs.SeatMoves.{head_stays}

-- ---- many words

module _ {profile : Profile} where
  pub swept_none : (Tells : ℕ → ℕ → History → Type 0) (p : PortName) (x : PortView) (values : List ℕ) (m : Knows) → IsSeatOf p x m
      → IsSound profile x.quota x.seen → Swept profile Tells p x 0 values m
  swept_none Tells p x values m view sound = record {
    log = x.seen;
    view = view;
    goes_on = record { sound = sound; part = begins_again x.seen; own = refl };
    each = λ k l. absurd (omega arith);
  }

  -- one load more, after which the whole history was seen
  module _ (Tells : ℕ → ℕ → History → Type 0) {p : PortName} {x : PortView} {i : ℕ} {values : List ℕ} {m n : Knows} {found : ℕ}
      (c : Swept profile Tells p x i values m) (t : Watches profile (i + 1) m found n) where
    on : GoesOn profile p (see c.log x) t.log
    on = t.goes_on p (see c.log x) (only_holds p (see c.log x) m c.view)

    goes : GoesOn profile p x t.log
    goes = record {
      sound = on.sound;
      part = begins_through t.log c.log x.seen on.part c.goes_on.part;
      own = on.own ∙ c.goes_on.own;
    }

    view : IsSeatOf p (see t.log x) n
    view = only_sees p (see c.log x) t.log m n c.view t.view

    pub swept_more : (values' : List ℕ) → ((k : ℕ) → k < i → get_or values' k 0 ≡ get_or values k 0)
        → Tells (i + 1) (get_or values' i 0) t.log → Swept profile Tells p x (i + 1) values' n
    swept_more values' same tells = record {
      log = t.log;
      view = view;
      goes_on = goes;
      each = λ k l.
          dite (ℕ_discrete k i)
          (λ e. subst (λ (j : ℕ). Stood x.seen t.log (Tells (j + 1) (get_or values' j 0))) (sym e)
          (record { at = t.log; from = goes.part; to = begins_again t.log; tells = tells }))
          (λ ne. let s = c.each k (omega arith) in
          record {
            at = s.at;
            from = s.from;
            to = begins_through t.log c.log s.at on.part s.to;
            tells = subst (λ (v : ℕ). Tells (k + 1) v s.at) (sym (same k (omega arith))) s.tells;
          });
    }

    pub swept_moved : i < objects_in profile → number_in found ≢ number_in (get_or values i 0) → Moved profile p x values n
    swept_moved l other = record {
      log = t.log;
      view = view;
      goes_on = goes;
      k = i;
      less = l;
      stood = record {
        at = t.log;
        from = goes.part;
        to = begins_again t.log;
        tells = λ e. other (t.head.number_is ∙ sym e);
      };
    }

  -- ---- one turn

  module _ {p : PortName} {x : PortView} {values : List ℕ} {m1 m2 : Knows}
      (c : Swept profile IsHead p x (objects_in profile) values m1) (t : Poses profile p m1 m2) where
    posed_on : GoesOn profile p (see c.log x) t.log × IsSound profile x.quota (pictured p (objects_in profile) t.log ++ t.log)
    posed_on = t.goes_on (see c.log x) (only_holds p (see c.log x) m1 c.view)

    abbrev y : PortView
    y = see (pictured p (objects_in profile) t.log ++ t.log) x

    -- what the port knows once the looks stand
    pub posed_view : IsSeatOf p y m2
    posed_view = only_sees p (see c.log x) (pictured p (objects_in profile) t.log ++ t.log) m1 m2 c.view t.view

    pub posed_sound : IsSound profile x.quota y.seen
    posed_sound = posed_on.1

    after_looks : (h : History) → BeginsWith h y.seen → BeginsWith h t.log
    after_looks h b = begins_through h y.seen t.log b (pictured p (objects_in profile) t.log, refl)

    before_looks : (h : History) → BeginsWith c.log h → BeginsWith t.log h
    before_looks h b = begins_through t.log c.log h posed_on.0.part b

    module _ {m3 : Knows} where
      abbrev turned : (log : History) → IsSeatOf p (see log y) m3 → GoesOn profile p y log → Turned profile p x m3
      turned log view on = record {
        at = t.log;
        end = log;
        from = before_looks x.seen c.goes_on.part;
        own_from = posed_on.0.own ∙ c.goes_on.own;
        to = on.part;
        own_to = on.own;
        view = view;
        sound = on.sound;
        sound_at = posed_on.0.sound;
      }

      pub turn_posed : Swept profile HasNumber p y (objects_in profile) values m3 → Posed profile p x values m3
      turn_posed d = record {
        turn = turned d.log d.view d.goes_on;
        each = λ k l.
            let a = c.each k l in
            let b = d.each k l in
            let from = before_looks a.at a.to in
            let between =
            stood_between same_object (k + 1) b.at t.log a.at (after_looks b.at b.from) from (sym b.tells ∙ a.tells.number_is) in
            head_stays a.at t.log (get_or values k 0) (k + 1) between (unchanged t.log a.at (k + 1) from between) a.tells;
      }

      pub turn_missed : Moved profile p y values m3 → Missed profile p x m3
      turn_missed d =
          let a = c.each d.k d.less in
          let b = d.stood in
          let apart = another same_object (d.k + 1) b.at a.at
          (begins_through b.at t.log a.at (after_looks b.at b.from) (before_looks a.at a.to))
          (λ s. b.tells (a.tells.number_is ∙ sym s)) in
          let first = changes_later apart.port a.at x.seen a.from in
          let last = changes_later apart.port d.log b.at b.to in
          let more = apart.more in
          record { turn = turned d.log d.view d.goes_on; other = apart.port; changed = omega arith }

-- a turn succeeded or was lost
pub turned_as : (profile : Profile) (p : PortName) (values : List ℕ) (posed : Bool) (old new : Knows)
    → (posed ≡ true → TurnsIn profile p values true old new) → (posed ≡ false → TurnsIn profile p values false old new)
    → TurnsIn profile p values posed old new
turned_as profile p values true old new done lost = done refl
turned_as profile p values false old new done lost = lost refl
