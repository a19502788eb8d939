-- A member in loop back mode, and a frame that one member alone sends.
use Rattle.std.proofs.Common.{ℕ, ◌≡◌, ◌≢◌, ◌==◌, Bool, true, false, ◌&&◌, List, inl, inr, Some, refl, sym, ap, ◌∙◌, arith}
use Rattle.std.specs.Prelude.{◌⊎◌, is_none, not}
use Rattle.std.proofs.lemmas.Bool.Decides.{nat_tests}
use Rattle.ccan_accept.specs.declared.frame.Frame.{Frame}
use Rattle.ccan_wire.specs.declared.member.Member.{Member}
use Rattle.ccan_wire.specs.declared.role.Role.{Role}
use Rattle.ccan_wire.specs.declared.role.Role.TheVariants.{Absent, Silent, Alone, Passive, Active, Looped}
use Rattle.ccan_wire.specs.declared.start.Start.{Start}
use Rattle.ccan_wire.specs.declared.start.Start.TheVariants.{Nothing, Collision, Won}
use Rattle.ccan_wire.specs.declared.winner.Part.TheVariants.{Sender, Listener}
use Rattle.ccan_wire.specs.declared.winner.Winner.{Winner}
use Rattle.ccan_wire.specs.declared.wire.Wire.{Wire}
use Rattle.ccan_wire.specs.declared.wire.Wire.TheVariants.{Idle, Collided, Broken, Flagged, Unheard, Carried}
use Rattle.ccan_wire.specs.Event.{event_as, event_in, event_of, received_well}
use Rattle.ccan_wire.specs.Flaw.{found_early}
use Rattle.ccan_wire.specs.Member.{sent_by}
use Rattle.ccan_wire.specs.Role.{drives, hears}
use Rattle.ccan_wire.specs.Sign.{acknowledges, breaks, covers, flags, goes_on}
use Rattle.ccan_wire.specs.Start.{Starts, Wins}
use Rattle.ccan_wire.specs.Winner.{part_of}
use Rattle.ccan_wire.specs.Wire.{Carries, Someone}
use Rattle.ccan_wire.specs.Laws.{IsLoneFrame, IsLoopBackFrame, IsSentBy, has_received}
use Rattle.ccan_wire.proofs.Frames.{same_frame}
use Rattle.ccan_wire.proofs.Heard.{driven}
use Rattle.ccan_wire.proofs.Listening.{sender_drives}
use Rattle.ccan_wire.proofs.Lone.{breaks_flawless, covers_flawless, flags_flawless}
use Rattle.ccan_wire.proofs.Parts.{by_part}

-- ---- its event

deaf_as : (r : Role) (w v : Wire) (j k : ℕ) (x : Member) → hears r ≡ false → event_as r w j x ≡ event_as r v k x
deaf_as Absent w v j k x e = refl
deaf_as Silent w v j k x e = absurd cc
deaf_as Alone w v j k x e = refl
deaf_as Passive w v j k x e = absurd cc
deaf_as Active w v j k x e = absurd cc
deaf_as Looped w v j k x e = refl

pub deaf : (w v : Wire) (j k : ℕ) (x : Member) → hears x.role ≡ false → event_of w j x ≡ event_of v k x
deaf w v j k x e = deaf_as x.role w v j k x e

-- ---- its frame

won_by : (m : ℕ → Member) (w : Winner) (k : ℕ) (f : Frame) → Wins m w → IsLoopBackFrame m k f → IsSentBy (Won w) k f
won_by m w k f a l =
    by_part (part_of w k) (IsSentBy (Won w) k f)
    (λ p. record { winner = w; won = refl; is = same_frame (sent_by (m k)) w.frame f (a.theirs k p) l.sends; part = p })
    (λ p. let heard = (a.drop k p).hears in let not_heard = l.deaf in absurd cc)
    (λ p. let heard = (a.first k f p l.sends).hears in let not_heard = l.deaf in absurd cc)

pub goes_on_or_spoils : (m : ℕ → Member) (start : Start) (k : ℕ) (f : Frame) → Starts m start → IsLoopBackFrame m k f
    → IsSentBy start k f ⊎ ((who : List Bool) × (start ≡ Collision who))
goes_on_or_spoils m Nothing k f a l = let none = a k in let some = l.sends in absurd cc
goes_on_or_spoils m (Collision who) k f a l = inr (who, refl)
goes_on_or_spoils m (Won w) k f a l = inl (won_by m w k f a l)

-- ---- a frame that one member alone sends

no_more : (b : Bool) → not (b && false) ≡ true
no_more true = refl
no_more false = refl

module _ (m : ℕ → Member) (k : ℕ) (lone : IsLoneFrame m k) where
  sent_here : (j : ℕ) (f : Frame) → sent_by (m j) ≡ Some f → j ≡ k
  sent_here j f sent = elim (j == k) as (λ b. (j == k) ≡ b → j ≡ k) [
    | true ↦ λ e. grind (arith, nat_tests)
    | false ↦ λ e.
        let no = lone.others j (λ is. let same : (j == k) ≡ true = grind (arith, nat_tests) in cc) in absurd cc
  ] refl

  module _ (w : Winner) (a : Wins m w) where
    its_own : part_of w k ≡ Sender
    its_own =
        let t = a.some.0 in
        let is = sent_here t w.frame (a.theirs t a.some.1) in
        ap (λ i. part_of w i) (sym is) ∙ a.some.1

    goes_on_itself : goes_on (part_of w k) (m k) ≡ true
    goes_on_itself =
        ap (λ p. goes_on p (m k)) its_own
        ∙ (ap (λ b. b && not (hears (m k).role && found_early true (m k).flaw)) (sender_drives (m k) lone.frame lone.sends)
        ∙ (ap (λ o. not (hears (m k).role && found_early true o)) (lone.flawless k) ∙ no_more (hears (m k).role)))

    module _ (j : ℕ) (other : j ≢ k) (takes : drives (m j).role ≡ true) (hearing : hears (m j).role ≡ true) where
      listens : part_of w j ≡ Listener
      listens =
          by_part (part_of w j) (part_of w j ≡ Listener)
          (λ p. absurd (other (sent_here j w.frame (a.theirs j p))))
          (λ p. let d = a.drop j p in absurd (other (sent_here j d.other d.sends)))
          (λ p. p)

      acknowledges_it : acknowledges (part_of w j) (m j) ≡ true
      acknowledges_it =
          ap (λ p. acknowledges p (m j)) listens
          ∙ (ap (λ b. b && (hears (m j).role && is_none (m j).flaw)) takes
          ∙ (ap (λ b. b && is_none (m j).flaw) hearing ∙ ap is_none (lone.flawless j)))

      received : event_in (part_of w j) (Carried w) (m j) ≡ has_received
      received = ap (λ p. event_in p (Carried w) (m j)) listens ∙ ap received_well (lone.flawless j)

    unbroken : Someone breaks m w → ⊥
    unbroken s = breaks_flawless (part_of w s.0) (m s.0) s.1 (lone.flawless s.0)

    uncovered : Someone covers m w → ⊥
    uncovered s = covers_flawless (part_of w s.0) (m s.0) s.1 (lone.flawless s.0)

    unflagged : Someone flags m w → ⊥
    unflagged s = flags_flawless (part_of w s.0) (m s.0) s.1 (lone.flawless s.0)

  pub received_by : (w : Wire) (j : ℕ) → Carries m w → j ≢ k → drives (m j).role ≡ true → hears (m j).role ≡ true
      → event_of w j (m j) ≡ has_received
  received_by Idle j a other takes hearing = let none = a.starts k in let some = lone.sends in absurd cc
  received_by (Collided who) j a other takes hearing =
      let s = a.starts in
      let one = sent_here s.one s.frame s.sends in
      let another = sent_here s.another s.its s.its_sends in
      let same = ap (λ i. sent_by (m i)) (another ∙ sym one) ∙ s.sends in
      absurd (s.different (same_frame (sent_by (m s.another)) s.its s.frame s.its_sends same))
  received_by (Broken w) j a other takes hearing = elim a.ends [
    | inl some ↦ absurd (unbroken w a.starts some)
    | inr none ↦ let on = goes_on_itself w a.starts in let off = none k in absurd cc
  ]
  received_by (Flagged w) j a other takes hearing = elim a.ends.by [
    | inl some ↦ absurd (uncovered w a.starts some)
    | inr two ↦ absurd (unflagged w a.starts two.1)
  ]
  received_by (Unheard w x) j a other takes hearing =
      let on = acknowledges_it w a.starts j other takes hearing in let off = a.ends.unheard j in absurd cc
  received_by (Carried w) j a other takes hearing =
      driven (m j).role (Carried w) j (m j) takes hearing ∙ received w a.starts j other takes hearing
