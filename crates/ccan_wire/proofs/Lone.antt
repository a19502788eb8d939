-- A sender that no other member hears.
use Rattle.std.proofs.Common.{ℕ, ◌≡◌, ◌+◌, ◌==◌, Bool, true, false, ◌&&◌, not, inl, inr, Some, None, refl, sym, ap, ◌∙◌, arith}
use Rattle.std.specs.Prelude.{is_some, if◌then◌else◌}
use Rattle.std.proofs.lemmas.Bool.Decides.{nat_tests}
use Rattle.ccan_confine.specs.declared.bus_event.BusEvent.TheVariants as event
use Rattle.ccan_confine.specs.declared.status_event.StatusEvent.TheVariants as status
use Rattle.ccan_confine.specs.Counters.{Levels, is_off, levels_after, reaches}
use Rattle.ccan_wire.specs.declared.member.Member.{Member}
use Rattle.ccan_wire.specs.declared.role.Role.{Role}
use Rattle.ccan_wire.specs.declared.role.Role.TheVariants.{Absent, Silent, Alone, Passive, Active, Looped}
use Rattle.ccan_wire.specs.declared.winner.Part.{Part}
use Rattle.ccan_wire.specs.declared.winner.Part.TheVariants.{Sender, Dropped, Listener}
use Rattle.ccan_wire.specs.declared.winner.Winner.{Winner}
use Rattle.ccan_wire.specs.declared.wire.Wire.{Wire}
use Rattle.ccan_wire.specs.declared.wire.Wire.TheVariants.{Idle, Collided, Broken, Flagged, Unheard, Carried}
use Rattle.ccan_wire.specs.Event.{event_in, event_of, sent_unheard, unacknowledged}
use Rattle.ccan_wire.specs.Flaw.{found_at_delimiter, found_early}
use Rattle.ccan_wire.specs.Member.{sent_by}
use Rattle.ccan_wire.specs.Role.{drives, hears, is_active}
use Rattle.ccan_wire.specs.Sign.{acknowledges, breaks, covers, flags, goes_on, protests}
use Rattle.ccan_wire.specs.Start.{Wins}
use Rattle.ccan_wire.specs.Winner.{part_of}
use Rattle.ccan_wire.specs.Wire.{Carries, Someone}
use Rattle.ccan_wire.specs.Laws.{IsLoneSender}
use Rattle.ccan_wire.proofs.Frames.{same_frame}
use Rattle.ccan_wire.proofs.Heard.{by_ack, driven}
use Rattle.ccan_wire.proofs.Listening.{sender_drives}

active_drives : (r : Role) → is_active r ≡ true → drives r ≡ true
active_drives Absent e = absurd cc
active_drives Silent e = absurd cc
active_drives Alone e = absurd cc
active_drives Passive e = absurd cc
active_drives Active e = refl
active_drives Looped e = absurd cc

left_of : (a b : Bool) → (a && b) ≡ true → a ≡ true
left_of true b e = refl
left_of false b e = absurd cc

right_of : (a b : Bool) → (a && b) ≡ true → b ≡ true
right_of true b e = e
right_of false b e = absurd cc

-- who shows one of these signs is error active
breaks_active : (p : Part) (x : Member) → breaks p x ≡ true → is_active x.role ≡ true
breaks_active Sender x e = left_of (is_active x.role) _ e
breaks_active Dropped x e = absurd cc
breaks_active Listener x e = left_of (is_active x.role) _ e

covers_active : (p : Part) (x : Member) → covers p x ≡ true → is_active x.role ≡ true
covers_active Sender x e = left_of (is_active x.role) _ e
covers_active Dropped x e = absurd cc
covers_active Listener x e = left_of (is_active x.role) _ e

protests_active : (p : Part) (x : Member) → protests p x ≡ true → is_active x.role ≡ true
protests_active Sender x e = e
protests_active Dropped x e = absurd cc
protests_active Listener x e = left_of (is_active x.role) _ e

-- and found an error
pub breaks_flawless : (p : Part) (x : Member) → breaks p x ≡ true → x.flaw ≡ None → ⊥
breaks_flawless Sender x e none =
    let early = right_of (is_active x.role) _ e in let no = ap (found_early true) none in cc
breaks_flawless Dropped x e none = cc
breaks_flawless Listener x e none =
    let early = right_of (is_active x.role) _ e in let no = ap (found_early false) none in cc

pub covers_flawless : (p : Part) (x : Member) → covers p x ≡ true → x.flaw ≡ None → ⊥
covers_flawless Sender x e none =
    let there = right_of (is_active x.role) _ e in let no = ap (found_at_delimiter true) none in cc
covers_flawless Dropped x e none = cc
covers_flawless Listener x e none =
    let there = right_of (is_active x.role) _ e in let no = ap (found_at_delimiter false) none in cc

pub flags_flawless : (p : Part) (x : Member) → flags p x ≡ true → x.flaw ≡ None → ⊥
flags_flawless Sender x e none =
    let some = right_of (is_active x.role) _ e in let no = ap (λ o. is_some o) none in cc
flags_flawless Dropped x e none = cc
flags_flawless Listener x e none =
    let some = right_of (is_active x.role) _ e in let no = ap (λ o. is_some o) none in cc

module _ (m : ℕ → Member) (k : ℕ) (lone : IsLoneSender m k) where
  it_is : (j : ℕ) → drives (m j).role ≡ true → j ≡ k
  it_is j d = elim (j == k) as (λ b. (j == k) ≡ b → j ≡ k) [
    | true ↦ λ e. grind (arith, nat_tests)
    | false ↦ λ e.
        let no = lone.others j (λ is. let same : (j == k) ≡ true = grind (arith, nat_tests) in cc) in absurd cc
  ] refl

  its_flaw : (j : ℕ) → drives (m j).role ≡ true → (m j).flaw ≡ None
  its_flaw j d = ap (λ i. (m i).flaw) (it_is j d) ∙ lone.flawless

  module _ (w : Winner) (a : Wins m w) where
    its_own : part_of w k ≡ Sender
    its_own =
        let t = a.some.0 in
        let is = it_is t (sender_drives (m t) w.frame (a.theirs t a.some.1)) in
        ap (λ i. part_of w i) (sym is) ∙ a.some.1

    not_broken : Someone breaks m w → ⊥
    not_broken s =
        let j = s.0 in
        let active = breaks_active (part_of w j) (m j) s.1 in
        breaks_flawless (part_of w j) (m j) s.1 (its_flaw j (active_drives (m j).role active))

    not_covered : Someone covers m w → ⊥
    not_covered s =
        let j = s.0 in
        let active = covers_active (part_of w j) (m j) s.1 in
        covers_flawless (part_of w j) (m j) s.1 (its_flaw j (active_drives (m j).role active))

    not_heard : Someone acknowledges m w → ⊥
    not_heard s =
        let j = s.0 in
        let parts = by_ack (part_of w j) (m j) s.1 in
        let is = it_is j parts.1 in
        let there : part_of w j ≡ Sender = ap (λ i. part_of w i) is ∙ its_own in
        let listens = parts.0 in
        cc

    goes_on_itself : goes_on (part_of w k) (m k) ≡ true
    goes_on_itself =
        ap (λ p. goes_on p (m k)) its_own
        ∙ (ap (λ b. b && not (hears (m k).role && found_early true (m k).flaw)) (sender_drives (m k) lone.frame lone.sends)
        ∙ (ap (λ b. not (b && found_early true (m k).flaw)) lone.hears
        ∙ ap (λ o. not (found_early true o)) lone.flawless))

    -- where there is a flag of dominant bits it is its own
    its_count : (x : Bool) → (x ≡ true → Someone protests m w) → unacknowledged x (m k).role ≡ event.SendNoAck
    its_count true s =
        let j = (s refl).0 in
        let active = protests_active (part_of w j) (m j) (s refl).1 in
        let is = it_is j (active_drives (m j).role active) in
        let mine : is_active (m k).role ≡ true = ap (λ i. is_active (m i).role) (sym is) ∙ active in
        ap (λ b. if not b then event.SendFault else event.SendNoAck) mine
    its_count false s = refl

  pub unheard : (w : Wire) → Carries m w → event_of w k (m k) ≡ Some (event.SendNoAck, status.Fault 3)
  unheard Idle a = let none = a.starts k in let some = lone.sends in absurd cc
  unheard (Collided who) a =
      let one = it_is a.starts.one (sender_drives (m a.starts.one) a.starts.frame a.starts.sends) in
      let another = it_is a.starts.another (sender_drives (m a.starts.another) a.starts.its a.starts.its_sends) in
      let same = ap (λ i. sent_by (m i)) (another ∙ sym one) ∙ a.starts.sends in
      absurd
      (a.starts.different
      (same_frame (sent_by (m a.starts.another)) a.starts.its a.starts.frame a.starts.its_sends same))
  unheard (Broken w) a = elim a.ends [
    | inl some ↦ absurd (not_broken w a.starts some)
    | inr none ↦ let on = goes_on_itself w a.starts in let off = none k in absurd cc
  ]
  unheard (Flagged w) a = elim a.ends.by [
    | inl some ↦ absurd (not_covered w a.starts some)
    | inr two ↦ absurd (not_heard w a.starts two.0)
  ]
  unheard (Unheard w x) a =
      driven (m k).role (Unheard w x) k (m k) (sender_drives (m k) lone.frame lone.sends) lone.hears
      ∙ (ap (λ p. event_in p (Unheard w x) (m k)) (its_own w a.starts)
      ∙ (ap (sent_unheard x (m k).role) lone.flawless
      ∙ ap (λ e. Some (e, status.Fault 3)) (its_count w a.starts x a.ends.flag)))
  unheard (Carried w) a = absurd (not_heard w a.starts a.ends.heard)

stays : (levels : Levels) (b : Bool) → reaches 128 levels ≡ b → is_off levels ≡ false
    → is_off (if b then levels else record levels { tec = levels.tec + 8 }) ≡ false
stays levels true e on = on
stays levels false e on = grind (arith, nat_tests)

pub stays_on : (levels : Levels) → is_off levels ≡ false → is_off (levels_after event.SendNoAck levels) ≡ false
stays_on levels on =
    ap (λ b. is_off (if b then levels
    else (if reaches 128 levels then levels else record levels { tec = levels.tec + 8 }))) on
    ∙ stays levels (reaches 128 levels) refl on
