-- Numbers of many words, and what they tell of one place of the history.
use Rattle.std.proofs.Common.{◌≡◌, ◌≢◌, ℕ, ◌+◌, ◌<◌, ◌≤◌, Bool, true, false, List, ◌++◌, get_or, sym}
use Rattle.std.proofs.Common.{refl, ap, ◌∙◌, subst, arith}
use mathlib.Core.Logic.{dite}
use native.Mathlib.Decide.{ℕ_discrete}
use Rattle.ccan_object.specs.declared.profile.Profile.{Profile}
use Rattle.ccan_object.specs.declared.record.Record.{Record}
use Rattle.ccan_object.specs.Profile.{Holds, objects_in}
use Rattle.ccan_object.specs.Record.{zero_record}
use Rattle.ccan_ram.specs.declared.port.PortName.{PortName}
use Rattle.ccan_ram.specs.History.{record_at, changes_by, last_number, BeginsWith, History}
use Rattle.ccan_words.specs.declared.view.PortView.{PortView}
use Rattle.ccan_words.specs.View.{see}
use Rattle.ccan_words.specs.Layout.{Form, Lies, Shows}
use Rattle.ccan_ram.specs.Sound.{IsSound}
use Rattle.ccan_words.specs.Rule.{Latest}
use Rattle.ccan_words.specs.Plays.{Knows, GoesOn}
use Rattle.ccan_words.specs.Version.{IsSeatOf, IsRecordOf}
use Rattle.ccan_ram.specs.Picture.{pictured}
use Rattle.ccan_words.specs.Picture.{CountsOn, Poses, Stood, Counted, Moved, Turned, Posed, Missed, TurnsIn}
use Rattle.ccan_ram.proofs.Histories.{changes_later, begins_again, begins_through}
use Rattle.ccan_ram.proofs.Numbers.{stands_after}
use Rattle.ccan_words.proofs.Histories.{latest}
use Rattle.ccan_ram.proofs.Records.{record_is, stands_records}
use Rattle.ccan_words.proofs.Seats.{only_holds, only_sees}
use Rattle.ccan_ram.proofs.Standing.{another, stood_between}

-- ---- many words

module _ {profile : Profile} {most : ℕ} {contends : ℕ → ℕ → Bool} (F : Form profile most contends) where
  pub counted_none : (p : PortName) (x : PortView) (numbers : List ℕ) (m : Knows) → IsSeatOf p x m
      → IsSound profile x.quota x.seen
      → Counted F p x 0 numbers m
  counted_none p x numbers m view sound = record {
    log = x.seen;
    view = view;
    goes_on = record { sound = sound; part = begins_again x.seen; own = refl };
    each = λ k l. absurd (omega arith);
  }

  -- one load more, after which the whole history was seen
  module _ {p : PortName} {x : PortView} {i : ℕ} {numbers : List ℕ} {m n : Knows} {found : ℕ} (c : Counted F p x i numbers m)
      (t : CountsOn F (i + 1) m found n) where
    on : GoesOn profile p (see c.log x) t.log
    on = t.goes_on p (see c.log x) (only_holds p (see c.log x) m c.view)

    goes : GoesOn profile p x t.log
    goes = record {
      sound = on.sound;
      part = begins_through t.log c.log x.seen on.part c.goes_on.part;
      own = on.own ∙ c.goes_on.own;
    }

    view : IsSeatOf p (see t.log x) n
    view = only_sees p (see c.log x) t.log m n c.view t.view

    here : Stood F x.seen t.log (i + 1) found
    here = record { at = t.log; from = goes.part; to = begins_again t.log; last = t.found_last; ranged = t.number }

    pub counted_more : (numbers' : List ℕ) → ((k : ℕ) → k < i → get_or numbers' k 0 ≡ get_or numbers k 0)
        → get_or numbers' i 0 ≡ found → Counted F p x (i + 1) numbers' n
    counted_more numbers' same is = record {
      log = t.log;
      view = view;
      goes_on = goes;
      each = λ k l.
          dite (ℕ_discrete k i)
          (λ e. subst (λ (u : ℕ × ℕ). Stood F x.seen t.log (u.0 + 1) u.1)
          (λ j. (sym e j, sym (ap (λ (z : ℕ). get_or numbers' z 0) e ∙ is) j)) here)
          (λ ne. let s = c.each k (omega arith) in
          subst (Stood F x.seen t.log (k + 1)) (sym (same k (omega arith)))
          (record {
            at = s.at;
            from = s.from;
            to = begins_through t.log c.log s.at on.part s.to;
            last = s.last;
            ranged = s.ranged;
          }));
    }

    pub counted_moved : i < objects_in profile → found ≢ get_or numbers i 0 → Moved F p x numbers n
    counted_moved l other = record {
      log = t.log;
      view = view;
      goes_on = goes;
      k = i;
      less = l;
      now = found;
      stood = here;
      other = other;
    }

  -- ---- one turn

  module _ (lies : Lies F) {p : PortName} {x : PortView} {numbers : List ℕ} {m1 m2 : Knows}
      (c : Counted F p x (objects_in profile) numbers m1) (t : Poses F p m1 m2) where
    posed_on : GoesOn profile p (see c.log x) t.log × IsSound profile x.quota (pictured p (objects_in profile) t.log ++ t.log)
    posed_on = t.goes_on (see c.log x) (only_holds p (see c.log x) m1 c.view)

    abbrev y : PortView
    y = see (pictured p (objects_in profile) t.log ++ t.log) x

    -- what the port knows once the looks stand
    pub posed_view : IsSeatOf p y m2
    posed_view = only_sees p (see c.log x) (pictured p (objects_in profile) t.log ++ t.log) m1 m2 c.view t.view

    pub posed_sound : IsSound profile x.quota y.seen
    posed_sound = posed_on.1

    few_of : (q : ℕ) (h : History) → q ≤ most → IsSound profile q h → (r : PortName) → changes_by r h < 65535
    few_of q h top s r = let f = s.few r in let a = lies.few in omega arith

    after_looks : (h : History) → BeginsWith h y.seen → BeginsWith h t.log
    after_looks h b = begins_through h y.seen t.log b (pictured p (objects_in profile) t.log, refl)

    module _ {m3 : Knows} where
      abbrev turned : (log : History) → IsSeatOf p (see log y) m3 → GoesOn profile p y log → Turned F p x m3
      turned log view on = record {
        at = t.log;
        end = log;
        from = begins_through t.log c.log x.seen posed_on.0.part c.goes_on.part;
        own_from = posed_on.0.own ∙ c.goes_on.own;
        to = on.part;
        own_to = on.own;
        view = view;
        sound = on.sound;
        sound_at = posed_on.0.sound;
      }

      pub turn_posed : x.quota ≤ most → Counted F p y (objects_in profile) numbers m3 → Posed F p x numbers m3
      turn_posed top d = record {
        turn = turned d.log d.view d.goes_on;
        each = λ k l.
            let a = c.each k l in
            let b = d.each k l in
            let between = stood_between contends (k + 1) b.at t.log a.at
            (after_looks b.at b.from) (begins_through t.log c.log a.at posed_on.0.part a.to) (sym b.last ∙ a.last) in
            a.last ∙ sym between;
        ranged = λ k l. (c.each k l).ranged;
      }

      pub turn_missed : Moved F p y numbers m3 → Missed F p x m3
      turn_missed d =
          let a = c.each d.k d.less in
          let b = d.stood in
          let apart = another contends (d.k + 1) b.at a.at
          (begins_through b.at t.log a.at (after_looks b.at b.from) (begins_through t.log c.log a.at posed_on.0.part a.to))
          (λ s. d.other (b.last ∙ (s ∙ sym a.last))) in
          let first = changes_later apart.port a.at x.seen a.from in
          let last = changes_later apart.port d.log b.at b.to in
          let more = apart.more in
          record { turn = turned d.log d.view d.goes_on; other = apart.port; changed = omega arith }

  -- a turn succeeded or was lost
  pub turned_as : (p : PortName) (numbers : List ℕ) (posed : Bool) (old new : Knows)
      → (posed ≡ true → TurnsIn F p numbers true old new) → (posed ≡ false → TurnsIn F p numbers false old new)
      → TurnsIn F p numbers posed old new
  turned_as p numbers true old new done lost = done refl
  turned_as p numbers false old new done lost = lost refl

  -- ---- records

  -- the record in the version that had this number where a history ended
  pub record_then : (lies : Lies F) (shows : Shows F) (p : PortName) (k found : ℕ) (r : Record) (y : PortView) (me : Knows)
      (log : History)
      → IsSeatOf p y me → Holds profile k → BeginsWith y.seen log → IsSound profile y.quota log
      → found ≡ last_number contends k log → (found ≡ 0 → r ≡ zero_record)
      → (found ≢ 0 → IsRecordOf F k found me r) → r ≡ record_at k log
  record_then lies shows p k found r y me log view object begins sound is none value =
      let l : Latest contends k found log = subst (λ (n : ℕ). Latest contends k n log) (sym is) (latest contends k log) in
      dite (ℕ_discrete found 0)
      (λ z. none z ∙ sym (l.none z k (lies.itself k)))
      (λ nz.
      let s = l.some nz in
      let good = record_is k s.0 (stands_records log found s.0 sound.records s.1) in
      value nz p y s.0 (record_at k s.0) (only_holds p y me view) (stands_after y.seen log found s.0 begins s.1) good
      (λ j less. shows.value k j s.0 object s.2 less)
      ∙ s.3 k (lies.itself k))
