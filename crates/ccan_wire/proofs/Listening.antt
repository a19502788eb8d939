-- Who drives nothing changes nothing on the bus.
use Rattle.std.proofs.Common.{ℕ, ◌≡◌, Bool, true, false, ◌&&◌, not, inl, inr, Some, None, refl, sym, ap, subst, ◌∙◌}
use Rattle.std.specs.Prelude.{is_none, is_some, if◌then◌else◌}
use Rattle.ccan_accept.specs.declared.frame.Frame.{Frame}
use Rattle.ccan_wire.specs.declared.member.Member.{Member}
use Rattle.ccan_wire.specs.declared.role.Role.{Role}
use Rattle.ccan_wire.specs.declared.role.Role.TheVariants.{Absent, Silent, Alone, Passive, Active, Looped}
use Rattle.ccan_wire.specs.declared.start.Start.{Start}
use Rattle.ccan_wire.specs.declared.start.Start.TheVariants.{Nothing, Collision, Won}
use Rattle.ccan_wire.specs.declared.winner.Part.{Part}
use Rattle.ccan_wire.specs.declared.winner.Part.TheVariants.{Sender, Dropped, Listener}
use Rattle.ccan_wire.specs.declared.winner.Winner.{Winner}
use Rattle.ccan_wire.specs.declared.wire.Wire.{Wire}
use Rattle.ccan_wire.specs.declared.wire.Wire.TheVariants.{Idle, Collided, Broken, Flagged, Unheard, Carried}
use Rattle.ccan_wire.specs.Flaw.{found_at_delimiter, found_early}
use Rattle.ccan_wire.specs.Member.{sent_by}
use Rattle.ccan_wire.specs.Role.{drives, hears, is_active}
use Rattle.ccan_wire.specs.Sign.{acknowledges, breaks, covers, flags, goes_on, protests}
use Rattle.ccan_wire.specs.Start.{DropsOut, Loses, SendsLeast, Starts}
use Rattle.ccan_wire.specs.Winner.{part_of}
use Rattle.ccan_wire.specs.Wire.{Carries, Ends, IsWhole, Nobody, Someone, start_of}
use Rattle.ccan_wire.specs.Laws.{DriveTheSame}

-- ---- who drives nothing shows no sign

sent-quiet : (x : Member) → drives x.role ≡ false → sent_by x ≡ None
sent-quiet x e = ap (λ b. if b then x.frame else None) e

not_active : (r : Role) → drives r ≡ false → is_active r ≡ false
not_active Absent e = refl
not_active Silent e = refl
not_active Alone e = refl
not_active Passive e = refl
not_active Active e = absurd cc
not_active Looped e = absurd cc

abbrev IsQuiet : (Part → Member → Bool) → Type 0
IsQuiet shows = (p : Part) (x : Member) → drives x.role ≡ false → shows p x ≡ false

breaks-quiet : IsQuiet breaks
breaks-quiet Sender x e = ap (λ b. b && found_early true x.flaw) (not_active x.role e)
breaks-quiet Dropped x e = refl
breaks-quiet Listener x e = ap (λ b. b && found_early false x.flaw) (not_active x.role e)

covers-quiet : IsQuiet covers
covers-quiet Sender x e = ap (λ b. b && found_at_delimiter true x.flaw) (not_active x.role e)
covers-quiet Dropped x e = refl
covers-quiet Listener x e = ap (λ b. b && found_at_delimiter false x.flaw) (not_active x.role e)

flags-quiet : IsQuiet flags
flags-quiet Sender x e = ap (λ b. b && is_some x.flaw) (not_active x.role e)
flags-quiet Dropped x e = refl
flags-quiet Listener x e = ap (λ b. b && is_some x.flaw) (not_active x.role e)

protests-quiet : IsQuiet protests
protests-quiet Sender x e = not_active x.role e
protests-quiet Dropped x e = refl
protests-quiet Listener x e = ap (λ b. b && is_some x.flaw) (not_active x.role e)

goes_on-quiet : IsQuiet goes_on
goes_on-quiet Sender x e = ap (λ d. d && not (hears x.role && found_early true x.flaw)) e
goes_on-quiet Dropped x e = refl
goes_on-quiet Listener x e = refl

acknowledges-quiet : IsQuiet acknowledges
acknowledges-quiet Sender x e = refl
acknowledges-quiet Dropped x e = refl
acknowledges-quiet Listener x e = ap (λ d. d && (hears x.role && is_none x.flaw)) e

by_drive : (x : Member) (P : Type 0) → (drives x.role ≡ true → P) → (drives x.role ≡ false → P) → P
by_drive x P driving quiet =
    elim (drives x.role) as (λ b. drives x.role ≡ b → P) [ true ↦ λ e. driving e | false ↦ λ e. quiet e ] refl

pub sender_drives : (x : Member) (f : Frame) → sent_by x ≡ Some f → drives x.role ≡ true
sender_drives x f e =
    by_drive x (drives x.role ≡ true) (λ d. d) (λ d. let none = sent-quiet x d in absurd cc)

-- ---- the same is on the bus

module _ (m other : ℕ → Member) (h : DriveTheSame m other) where
  same_sent : (k : ℕ) → sent_by (other k) ≡ sent_by (m k)
  same_sent k =
      by_drive (m k) (sent_by (other k) ≡ sent_by (m k)) (λ d. ap sent_by (h.drive k d))
      (λ d. sent-quiet (other k) (h.rest k d) ∙ sym (sent-quiet (m k) d))

  -- who sends is the same
  same_sender : (k : ℕ) (f : Frame) → sent_by (m k) ≡ Some f → other k ≡ m k
  same_sender k f e = h.drive k (sender_drives (m k) f e)

  there : (k : ℕ) → SendsLeast m k → SendsLeast other k
  there k l =
      record { frame = l.frame; sends = same_sent k ∙ l.sends; least = λ j g its. l.least j g (sym (same_sent j) ∙ its) }

  back : (k : ℕ) → SendsLeast other k → SendsLeast m k
  back k l =
      record { frame = l.frame; sends = sym (same_sent k) ∙ l.sends; least = λ j g its. l.least j g (same_sent j ∙ its) }

  same_start : (s : Start) → Starts m s → Starts other s
  same_start Nothing a = λ k. same_sent k ∙ a k
  same_start (Collision who) a =
      record {
        only = λ k among. there k (a.only k among);
        all = λ k l. a.all k (back k l);
        one = a.one;
        one_is = a.one_is;
        frame = a.frame;
        sends = same_sent a.one ∙ a.sends;
        first = λ k g among its. a.first k g among (sym (same_sent k) ∙ its);
        another = a.another;
        its = a.its;
        its_sends = same_sent a.another ∙ a.its_sends;
        different = a.different;
        drives_on = λ l. a.drives_on (subst (λ x. Loses x a.frame) (same_sender a.another a.its a.its_sends) l);
        stays = λ d. a.stays (subst (λ x. DropsOut x a.frame) (same_sender a.another a.its a.its_sends) d);
      }
  same_start (Won w) a =
      record {
        some = a.some;
        theirs = λ k p. same_sent k ∙ a.theirs k p;
        drop = λ k p.
            let d = a.drop k p in
            subst (λ x. DropsOut x w.frame) (sym (same_sender k d.other d.sends)) d;
        first = λ k g p its.
            let mine : sent_by (m k) ≡ Some g = sym (same_sent k) ∙ its in
            subst (λ x. Loses x w.frame) (sym (same_sender k g mine)) (a.first k g p mine);
      }

  -- a sign that nobody shows who drives nothing
  module _ (shows : Part → Member → Bool) (quiet : IsQuiet shows) (w : Winner) where
    same_sign : (k : ℕ) → shows (part_of w k) (other k) ≡ shows (part_of w k) (m k)
    same_sign k =
        by_drive (m k) (shows (part_of w k) (other k) ≡ shows (part_of w k) (m k))
        (λ d. ap (shows (part_of w k)) (h.drive k d))
        (λ d. quiet (part_of w k) (other k) (h.rest k d) ∙ sym (quiet (part_of w k) (m k) d))

    someone_too : Someone shows m w → Someone shows other w
    someone_too a = (a.0, same_sign a.0 ∙ a.1)

    nobody_too : Nobody shows m w → Nobody shows other w
    nobody_too a k = same_sign k ∙ a k

  same_whole : (w : Winner) → IsWhole m w → IsWhole other w
  same_whole w a =
      record {
        unbroken = nobody_too breaks breaks-quiet w a.unbroken;
        sent = someone_too goes_on goes_on-quiet w a.sent;
      }

  same_end : (w : Wire) → Ends m w → Ends other w
  same_end Idle a = tt
  same_end (Collided who) a = tt
  same_end (Broken w) a = elim a [
    | inl some ↦ inl (someone_too breaks breaks-quiet w some)
    | inr none ↦ inr (nobody_too goes_on goes_on-quiet w none)
  ]
  same_end (Flagged w) a =
      record {
        whole = same_whole w a.whole;
        by = elim a.by [
          | inl some ↦ inl (someone_too covers covers-quiet w some)
          | inr two ↦
              inr (someone_too acknowledges acknowledges-quiet w two.0, someone_too flags flags-quiet w two.1)
        ];
      }
  same_end (Unheard w x) a =
      record {
        whole = same_whole w a.whole;
        uncovered = nobody_too covers covers-quiet w a.uncovered;
        unheard = nobody_too acknowledges acknowledges-quiet w a.unheard;
        flag = λ e. someone_too protests protests-quiet w (a.flag e);
        no_flag = λ e. nobody_too protests protests-quiet w (a.no_flag e);
      }
  same_end (Carried w) a =
      record {
        whole = same_whole w a.whole;
        heard = someone_too acknowledges acknowledges-quiet w a.heard;
        unflagged = nobody_too flags flags-quiet w a.unflagged;
      }

  pub same_wire : (w : Wire) → Carries m w → Carries other w
  same_wire w a = record { starts = same_start (start_of w) a.starts; ends = same_end w a.ends }
