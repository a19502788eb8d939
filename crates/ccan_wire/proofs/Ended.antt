-- What becomes of a frame, by the signs of the members.
use Rattle.std.proofs.Common.{ℕ, ◌≡◌, Bool, true, false, ◌&&◌, List, [], Option, Some, None, refl, sym, ap, subst, ◌∙◌, inl, inr}
use Rattle.std.specs.Prelude.{is_some, if◌then◌else◌}
use Rattle.ccan_wire.specs.declared.flaw.Flaw.{Flaw}
use Rattle.ccan_wire.specs.declared.member.Member.{Member}
use Rattle.ccan_wire.specs.declared.role.Role.{Role}
use Rattle.ccan_wire.specs.declared.role.Role.TheVariants.{Absent, Silent, Alone, Passive, Active, Looped}
use Rattle.ccan_wire.specs.declared.winner.Part.{Part}
use Rattle.ccan_wire.specs.declared.winner.Part.TheVariants.{Sender, Dropped, Listener}
use Rattle.ccan_wire.specs.declared.winner.Winner.{Winner}
use Rattle.ccan_wire.specs.declared.wire.Wire.{Wire}
use Rattle.ccan_wire.specs.declared.wire.Wire.TheVariants.{Idle, Collided, Broken, Flagged, Unheard, Carried}
use Rattle.ccan_wire.specs.Event.{event_as, event_in, listener_event, part_on, sender_event}
use Rattle.ccan_wire.specs.Flaw.{found_at_delimiter}
use Rattle.ccan_wire.specs.Role.{is_active}
use Rattle.ccan_wire.specs.Sign.{acknowledges, breaks, covers, flags, goes_on, protests}
use Rattle.ccan_wire.specs.Start.{Starts}
use Rattle.ccan_wire.specs.Winner.{is_among, part_in, part_of}
use Rattle.ccan_wire.specs.Wire.{Carries, Continues, IsBroken, IsCarried, IsFlagged, IsUnheard, IsWhole, Nobody, Someone}
use Rattle.ccan_wire.specs.Laws.{IsSameTo}
use Rattle.ccan_wire.proofs.Settled.{not_both, not_nothing, nothing_or_collided, same_colliders, same_parts}

-- ---- signs

pub not_both_signs : (shows : Part → Member → Bool) (m : ℕ → Member) (w : Winner) → Someone shows m w → Nobody shows m w
    → (A : Type 0) → A
not_both_signs shows m w a b A = let x = a.1 in let y = b a.0 in absurd cc

active_flag : (active sends : Bool) (flaw : Option Flaw) → (active && found_at_delimiter sends flaw) ≡ true
    → (active && is_some flaw) ≡ true
active_flag true sends None e = absurd cc
active_flag true sends (Some flaw) e = refl
active_flag false sends flaw e = absurd cc

-- who flags in the ACK slot flags
flags_of_covers : (p : Part) (x : Member) → covers p x ≡ true → flags p x ≡ true
flags_of_covers Sender x e = active_flag (is_active x.role) true x.flaw e
flags_of_covers Dropped x e = absurd cc
flags_of_covers Listener x e = active_flag (is_active x.role) false x.flaw e

-- ---- two ends of the same members

not_whole : (m : ℕ → Member) (w : Winner) → IsBroken m w → IsWhole m w → (A : Type 0) → A
not_whole m w a b A = elim a [
  | inl some ↦ not_both_signs breaks m w some b.unbroken A
  | inr none ↦ not_both_signs goes_on m w b.sent none A
]

flagged_or_unheard : (m : ℕ → Member) (w : Winner) (x : Bool) → IsFlagged m w → IsUnheard m w x → (A : Type 0) → A
flagged_or_unheard m w x a b A = elim a.by [
  | inl some ↦ not_both_signs covers m w some b.uncovered A
  | inr two ↦ not_both_signs acknowledges m w two.0 b.unheard A
]

flagged_or_carried : (m : ℕ → Member) (w : Winner) → IsFlagged m w → IsCarried m w → (A : Type 0) → A
flagged_or_carried m w a b A = elim a.by [
  | inl some ↦
      not_both_signs flags m w (some.0, flags_of_covers (part_of w some.0) (m some.0) some.1) b.unflagged A
  | inr two ↦ not_both_signs flags m w two.1 b.unflagged A
]

one_flag : (m : ℕ → Member) (w : Winner) (x y : Bool) → IsUnheard m w x → IsUnheard m w y → x ≡ y
one_flag m w true true a b = refl
one_flag m w true false a b = not_both_signs protests m w (a.flag refl) (b.no_flag refl) _
one_flag m w false true a b = not_both_signs protests m w (b.flag refl) (a.no_flag refl) _
one_flag m w false false a b = refl

-- ---- the same senders at other lists

module _ (m : ℕ → Member) (w v : Winner) (same : (k : ℕ) → part_of w k ≡ part_of v k) where
  someone_as : (shows : Part → Member → Bool) → Someone shows m v → Someone shows m w
  someone_as shows a = (a.0, ap (λ b. shows b (m a.0)) (same a.0) ∙ a.1)

  nobody_as : (shows : Part → Member → Bool) → Nobody shows m v → Nobody shows m w
  nobody_as shows a k = ap (λ b. shows b (m k)) (same k) ∙ a k

  whole_as : IsWhole m v → IsWhole m w
  whole_as a = record { unbroken = nobody_as breaks a.unbroken; sent = someone_as goes_on a.sent }

  broken_as : IsBroken m v → IsBroken m w
  broken_as a = elim a [ inl some ↦ inl (someone_as breaks some) | inr none ↦ inr (nobody_as goes_on none) ]

  flagged_as : IsFlagged m v → IsFlagged m w
  flagged_as a =
      record {
        whole = whole_as a.whole;
        by = elim a.by [
          | inl some ↦ inl (someone_as covers some)
          | inr two ↦ inr (someone_as acknowledges two.0, someone_as flags two.1)
        ];
      }

  unheard_as : (x : Bool) → IsUnheard m v x → IsUnheard m w x
  unheard_as x a =
      record {
        whole = whole_as a.whole;
        uncovered = nobody_as covers a.uncovered;
        unheard = nobody_as acknowledges a.unheard;
        flag = λ e. someone_as protests (a.flag e);
        no_flag = λ e. nobody_as protests (a.no_flag e);
      }

  carried_as : IsCarried m v → IsCarried m w
  carried_as a =
      record {
        whole = whole_as a.whole;
        heard = someone_as acknowledges a.heard;
        unflagged = nobody_as flags a.unflagged;
      }

-- ---- events

-- to each member the same, if it is to those who take part and to those who listen
event_same : (w v : Wire) (k : ℕ) (x : Member) (r : Role)
    → event_in (part_on w k) w x ≡ event_in (part_on v k) v x
    → listener_event w x.flaw ≡ listener_event v x.flaw
    → event_as r w k x ≡ event_as r v k x
event_same w v k x Absent e d = refl
event_same w v k x Silent e d = d
event_same w v k x Alone e d = refl
event_same w v k x Passive e d = e
event_same w v k x Active e d = e
event_same w v k x Looped e d = refl

in_same : (w v : Wire) (x : Member) (p : Part) → sender_event w x.role x.flaw ≡ sender_event v x.role x.flaw
    → listener_event w x.flaw ≡ listener_event v x.flaw
    → event_in p w x ≡ event_in p v x
in_same w v x Sender e d = e
in_same w v x Dropped e d = refl
in_same w v x Listener e d = d

-- two wires with the same events to a sender and to a listener, and with the same parts
same_to : (m : ℕ → Member) (w v : Wire) → ((k : ℕ) → part_on w k ≡ part_on v k)
    → ((r : Role) (o : Option Flaw) → sender_event w r o ≡ sender_event v r o)
    → ((o : Option Flaw) → listener_event w o ≡ listener_event v o)
    → IsSameTo m w v
same_to m w v same sends hears =
    record {
      parts = same;
      events = λ k.
          event_same w v k (m k) (m k).role
          (in_same w v (m k) (part_on w k) (sends (m k).role (m k).flaw) (hears (m k).flaw)
          ∙ ap (λ p. event_in p v (m k)) (same k))
          (hears (m k).flaw);
    }

same_in : (who these : List Bool) → ((k : ℕ) → is_among who k ≡ is_among these k) → (k : ℕ)
    → part_in who [] k ≡ part_in these [] k
same_in who these same k = ap (λ b. if b then Sender else (if is_among [] k then Dropped else Listener)) (same k)

pub one_wire : (m : ℕ → Member) (a b : Wire) → Carries m a → Carries m b → IsSameTo m a b
one_wire m Idle Idle c d = same_to m Idle Idle (λ k. refl) (λ r o. refl) (λ o. refl)
one_wire m Idle (Collided who) c d = nothing_or_collided m who d.starts c.starts _
one_wire m Idle (Broken w) c d = not_nothing m w d.starts c.starts _
one_wire m Idle (Flagged w) c d = not_nothing m w d.starts c.starts _
one_wire m Idle (Unheard w x) c d = not_nothing m w d.starts c.starts _
one_wire m Idle (Carried w) c d = not_nothing m w d.starts c.starts _
one_wire m (Collided who) Idle c d = nothing_or_collided m who c.starts d.starts _
one_wire m (Collided who) (Collided these) c d =
    same_to m (Collided who) (Collided these) (same_in who these (same_colliders m who these c.starts d.starts)) (λ r o. refl)
    (λ o. refl)
one_wire m (Collided who) (Broken w) c d = not_both m w who d.starts c.starts _
one_wire m (Collided who) (Flagged w) c d = not_both m w who d.starts c.starts _
one_wire m (Collided who) (Unheard w x) c d = not_both m w who d.starts c.starts _
one_wire m (Collided who) (Carried w) c d = not_both m w who d.starts c.starts _
one_wire m (Broken w) Idle c d = not_nothing m w c.starts d.starts _
one_wire m (Broken w) (Collided who) c d = not_both m w who c.starts d.starts _
one_wire m (Broken w) (Broken v) c d =
    let same = same_parts m w v c.starts d.starts in
    same_to m (Broken w) (Broken v) same (λ r o. refl) (λ o. refl)
one_wire m (Broken w) (Flagged v) c d =
    let same = same_parts m w v c.starts d.starts in
    not_whole m w c.ends (whole_as m w v same d.ends.whole) _
one_wire m (Broken w) (Unheard v y) c d =
    let same = same_parts m w v c.starts d.starts in
    not_whole m w c.ends (whole_as m w v same d.ends.whole) _
one_wire m (Broken w) (Carried v) c d =
    let same = same_parts m w v c.starts d.starts in
    not_whole m w c.ends (whole_as m w v same d.ends.whole) _
one_wire m (Flagged w) Idle c d = not_nothing m w c.starts d.starts _
one_wire m (Flagged w) (Collided who) c d = not_both m w who c.starts d.starts _
one_wire m (Flagged w) (Broken v) c d =
    let same = same_parts m w v c.starts d.starts in
    not_whole m w (broken_as m w v same d.ends) c.ends.whole _
one_wire m (Flagged w) (Flagged v) c d =
    let same = same_parts m w v c.starts d.starts in
    same_to m (Flagged w) (Flagged v) same (λ r o. refl) (λ o. refl)
one_wire m (Flagged w) (Unheard v y) c d =
    let same = same_parts m w v c.starts d.starts in
    flagged_or_unheard m w y c.ends (unheard_as m w v same y d.ends) _
one_wire m (Flagged w) (Carried v) c d =
    let same = same_parts m w v c.starts d.starts in
    flagged_or_carried m w c.ends (carried_as m w v same d.ends) _
one_wire m (Unheard w x) Idle c d = not_nothing m w c.starts d.starts _
one_wire m (Unheard w x) (Collided who) c d = not_both m w who c.starts d.starts _
one_wire m (Unheard w x) (Broken v) c d =
    let same = same_parts m w v c.starts d.starts in
    not_whole m w (broken_as m w v same d.ends) c.ends.whole _
one_wire m (Unheard w x) (Flagged v) c d =
    let same = same_parts m w v c.starts d.starts in
    flagged_or_unheard m w x (flagged_as m w v same d.ends) c.ends _
one_wire m (Unheard w x) (Unheard v y) c d =
    let same = same_parts m w v c.starts d.starts in
    let flag = one_flag m w x y c.ends (unheard_as m w v same y d.ends) in
    same_to m (Unheard w x) (Unheard v y) same
    (λ r o. ap (λ z. sender_event (Unheard w z) r o) flag) (λ o. ap (λ z. listener_event (Unheard w z) o) flag)
one_wire m (Unheard w x) (Carried v) c d =
    let same = same_parts m w v c.starts d.starts in
    not_both_signs acknowledges m w (carried_as m w v same d.ends).heard c.ends.unheard _
one_wire m (Carried w) Idle c d = not_nothing m w c.starts d.starts _
one_wire m (Carried w) (Collided who) c d = not_both m w who c.starts d.starts _
one_wire m (Carried w) (Broken v) c d =
    let same = same_parts m w v c.starts d.starts in
    not_whole m w (broken_as m w v same d.ends) c.ends.whole _
one_wire m (Carried w) (Flagged v) c d =
    let same = same_parts m w v c.starts d.starts in
    flagged_or_carried m w (flagged_as m w v same d.ends) c.ends _
one_wire m (Carried w) (Unheard v y) c d =
    let same = same_parts m w v c.starts d.starts in
    not_both_signs acknowledges m w c.ends.heard (unheard_as m w v same y d.ends).unheard _
one_wire m (Carried w) (Carried v) c d =
    let same = same_parts m w v c.starts d.starts in
    same_to m (Carried w) (Carried v) same (λ r o. refl) (λ o. refl)

-- what is decided again where nothing happened is decided as at first
pub decided_again : (m : ℕ → Member) (w later : Wire) → Carries m w → Continues w m later → IsSameTo m w later
decided_again m w later a c =
    one_wire m w later a (record { starts = subst (λ s. Starts m s) (sym c.settled) a.starts; ends = c.ends })
