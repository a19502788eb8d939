-- What is settled at the start of a frame, by those who send.
use Rattle.std.proofs.Common.{ℕ, ◌≡◌, Bool, true, false, List, Some, None, refl, sym, ap, subst, ◌∙◌, arith}
use Rattle.ccan_accept.specs.declared.frame.Frame.{Frame}
use Rattle.ccan_wire.specs.declared.member.Member.{Member}
use Rattle.ccan_wire.specs.declared.start.Start.{Start}
use Rattle.ccan_wire.specs.declared.start.Start.TheVariants.{Nothing, Collision, Won}
use Rattle.ccan_wire.specs.declared.winner.Part.TheVariants.{Sender, Dropped}
use Rattle.ccan_wire.specs.declared.winner.Winner.{Winner}
use Rattle.ccan_wire.specs.Arbitration.{beats}
use Rattle.ccan_wire.specs.Member.{sent_by}
use Rattle.ccan_wire.specs.Start.{Collides, ComesLater, DropsOut, Loses, Starts, Wins}
use Rattle.ccan_wire.specs.Winner.{is_among, part_of}
use Rattle.ccan_wire.specs.Laws.{SomeLeave}
use Rattle.ccan_wire.proofs.Frames.{beats-itself, not_itself, one_way, same_frame}
use Rattle.ccan_wire.proofs.Members.{by_among}
use Rattle.ccan_wire.proofs.Parts.{by_part}

-- ---- a frame that won

-- who drops out sends a frame that comes later
drop_later : (x : Member) (f g : Frame) → DropsOut x f → sent_by x ≡ Some g → ComesLater f g
drop_later x f g d is = subst (λ h. ComesLater f h) (same_frame (sent_by x) d.other g d.sends is) d.later

-- who loses the arbitration sends a frame that is preceded
lost_to : (x : Member) (f g : Frame) → Loses x f → sent_by x ≡ Some g → beats f g ≡ true
lost_to x f g l is = subst (λ h. beats f h ≡ true) (same_frame (sent_by x) l.other g l.sends is) l.lost

not_later_than_itself : (f : Frame) → ComesLater f f → ⊥
not_later_than_itself f c = let less = c.recessive in omega arith

-- no frame precedes that of a sender
wins_least : (m : ℕ → Member) (w : Winner) → Wins m w → (j : ℕ) (other : Frame) → sent_by (m j) ≡ Some other
    → beats other w.frame ≡ false
wins_least m w a j other its =
    by_part (part_of w j) (beats other w.frame ≡ false)
    (λ p.
    let same = same_frame (sent_by (m j)) other w.frame its (a.theirs j p) in
    subst (λ h. beats h w.frame ≡ false) (sym same) (beats-itself w.frame))
    (λ p. (drop_later (m j) w.frame other (a.drop j p) its).not_before)
    (λ p. one_way w.frame other (lost_to (m j) w.frame other (a.first j other p its) its))

-- what a member sends, by its part: the frame, one that comes later, or one that it precedes
by_sent : (m : ℕ → Member) (w : Winner) → Wins m w → (k : ℕ) (f : Frame) → sent_by (m k) ≡ Some f → (P : Type 0)
    → (w.frame ≡ f → P)
    → (ComesLater w.frame f → P)
    → (beats w.frame f ≡ true → P)
    → P
by_sent m w a k f its P same later after =
    by_part (part_of w k) P (λ p. same (same_frame (sent_by (m k)) w.frame f (a.theirs k p) its))
    (λ p. later (drop_later (m k) w.frame f (a.drop k p) its))
    (λ p. after (lost_to (m k) w.frame f (a.first k f p its) its))

-- ---- two starts of the same members

pub one_frame : (m : ℕ → Member) (v w : Winner) → Wins m v → Wins m w → v.frame ≡ w.frame
one_frame m v w a b =
    let mine = a.theirs a.some.0 a.some.1 in
    let its = b.theirs b.some.0 b.some.1 in
    by_sent m w b a.some.0 v.frame mine (v.frame ≡ w.frame) (λ e. sym e)
    (λ later.
    by_sent m v a b.some.0 w.frame its (v.frame ≡ w.frame) (λ e. e)
    (λ also. let x = later.recessive in let y = also.recessive in absurd (omega arith))
    (λ first. let no = later.not_before in absurd cc))
    (λ first.
    by_sent m v a b.some.0 w.frame its (v.frame ≡ w.frame) (λ e. e)
    (λ also. let no = also.not_before in absurd cc)
    (λ second. let no = one_way v.frame w.frame second in absurd cc))

module _ (m : ℕ → Member) (v w : Winner) (a : Wins m v) (b : Wins m w) where
  same : v.frame ≡ w.frame
  same = one_frame m v w a b

  a_sender : (k : ℕ) → part_of v k ≡ Sender → part_of w k ≡ Sender
  a_sender k p =
      let mine : sent_by (m k) ≡ Some w.frame = a.theirs k p ∙ ap Some same in
      by_part (part_of w k) (part_of w k ≡ Sender) (λ q. q)
      (λ q. absurd (not_later_than_itself w.frame (drop_later (m k) w.frame w.frame (b.drop k q) mine)))
      (λ q. absurd (not_itself w.frame (lost_to (m k) w.frame w.frame (b.first k w.frame q mine) mine)))

  a_dropped : (k : ℕ) → part_of v k ≡ Dropped → part_of w k ≡ Dropped
  a_dropped k p =
      let d = a.drop k p in
      let later : ComesLater w.frame d.other = subst (λ f. ComesLater f d.other) same d.later in
      by_part (part_of w k) (part_of w k ≡ Dropped)
      (λ q.
      let is = same_frame (sent_by (m k)) d.other w.frame d.sends (b.theirs k q) in
      absurd (not_later_than_itself w.frame (subst (λ f. ComesLater w.frame f) is later)))
      (λ q. q)
      (λ q.
      let first = lost_to (m k) w.frame d.other (b.first k d.other q d.sends) d.sends in
      let no = later.not_after in
      absurd cc)

pub same_parts : (m : ℕ → Member) (v w : Winner) → Wins m v → Wins m w → (k : ℕ) → part_of v k ≡ part_of w k
same_parts m v w a b k =
    by_part (part_of v k) (part_of v k ≡ part_of w k) (λ p. p ∙ sym (a_sender m v w a b k p))
    (λ p. p ∙ sym (a_dropped m v w a b k p))
    (λ p.
    by_part (part_of w k) (part_of v k ≡ part_of w k)
    (λ q. let there = a_sender m w v b a k q in absurd cc)
    (λ q. let there = a_dropped m w v b a k q in absurd cc)
    (λ q. p ∙ sym q))

pub same_colliders : (m : ℕ → Member) (who these : List Bool) → Collides m who → Collides m these → (k : ℕ)
    → is_among who k ≡ is_among these k
same_colliders m who these a b k =
    by_among who k (is_among who k ≡ is_among these k) (λ e. e ∙ sym (b.all k (a.only k e)))
    (λ e. by_among these k (is_among who k ≡ is_among these k)
    (λ d. let there = a.all k (b.only k d) in absurd cc) (λ d. e ∙ sym d))

module _ (m : ℕ → Member) (w : Winner) (who : List Bool) (a : Wins m w) (b : Collides m who) where
  -- a colliding member's frame is the one that won, or comes later
  colliding : (k : ℕ) (f : Frame) → is_among who k ≡ true → sent_by (m k) ≡ Some f → (P : Type 0) → (w.frame ≡ f → P)
      → (part_of w k ≡ Dropped → P)
      → P
  colliding k f among its P same drops =
      by_part (part_of w k) P (λ p. same (same_frame (sent_by (m k)) w.frame f (a.theirs k p) its)) drops
      (λ p.
      let least = b.only k among in
      let first = lost_to (m k) w.frame least.frame (a.first k least.frame p least.sends) least.sends in
      let no = least.least a.some.0 w.frame (a.theirs a.some.0 a.some.1) in
      absurd cc)

  -- the one that would go on is the one that won
  goes_on : b.frame ≡ w.frame
  goes_on =
      colliding b.one b.frame b.one_is b.sends (b.frame ≡ w.frame) (λ e. sym e)
      (λ p.
      let s = a.some.0 in
      let mine = a.theirs s a.some.1 in
      let inside = b.all s (record { frame = w.frame; sends = mine; least = wins_least m w a }) in
      let low = b.first s w.frame inside mine in
      let high = (drop_later (m b.one) w.frame b.frame (a.drop b.one p) b.sends).recessive in
      absurd (omega arith))

  pub not_both : (A : Type 0) → A
  not_both A =
      by_part (part_of w b.another) A
      (λ p.
      let is = same_frame (sent_by (m b.another)) b.its w.frame b.its_sends (a.theirs b.another p) in
      absurd (b.different (is ∙ sym goes_on)))
      (λ p. absurd (b.stays (subst (λ f. DropsOut (m b.another) f) (sym goes_on) (a.drop b.another p))))
      (λ p.
      let lost = a.first b.another b.its p b.its_sends in
      absurd (b.drives_on (subst (λ f. Loses (m b.another) f) (sym goes_on) lost)))

pub not_nothing : (m : ℕ → Member) (w : Winner) → Wins m w → ((k : ℕ) → sent_by (m k) ≡ None) → (A : Type 0) → A
not_nothing m w a b A = let p = a.theirs a.some.0 a.some.1 in let q = b a.some.0 in absurd cc

pub nothing_or_collided : (m : ℕ → Member) (who : List Bool) → Collides m who → ((k : ℕ) → sent_by (m k) ≡ None) → (A : Type 0) → A
nothing_or_collided m who a b A = let p = a.sends in let q = b a.one in absurd cc

-- ---- where some leave

abbrev StillWon : Start → Frame → Type 0
StillWon start frame = (left : Winner) × (start ≡ Won left) × (left.frame ≡ frame)

module _ (m other : ℕ → Member) (w : Winner) (a : Wins m w) (sender : ℕ) (part : part_of w sender ≡ Sender)
    (h : SomeLeave m other sender) where
  sends : sent_by (other sender) ≡ Some w.frame
  sends = h.stays ∙ a.theirs sender part

  -- what is left is the frame, comes later, or is preceded by it
  left : (k : ℕ) (f : Frame) → sent_by (other k) ≡ Some f → (P : Type 0) → (w.frame ≡ f → P)
      → (DropsOut (other k) w.frame → ComesLater w.frame f → P)
      → (Loses (other k) w.frame → beats w.frame f ≡ true → P)
      → P
  left k f its P same later after =
      let before = h.leave k f its in
      by_part (part_of w k) P (λ p. same (same_frame (sent_by (m k)) w.frame f (a.theirs k p) before.sent))
      (λ p.
      let d = a.drop k p in
      let is = drop_later (m k) w.frame f d before.sent in
      later
      (record { other = f; sends = its; later = is; hears = before.hears d.hears; passive = before.passive d.passive }) is)
      (λ p.
      let l = a.first k f p before.sent in
      let is = lost_to (m k) w.frame f l before.sent in
      after (record { other = f; sends = its; lost = is; hears = before.hears l.hears }) is)

  -- no frame that is left precedes it
  still_least : (j : ℕ) (f : Frame) → sent_by (other j) ≡ Some f → beats f w.frame ≡ false
  still_least j f its = wins_least m w a j f (h.leave j f its).sent

  no_collision : (who : List Bool) → Collides other who → (A : Type 0) → A
  no_collision who b A =
      let inside = b.all sender (record { frame = w.frame; sends = sends; least = still_least }) in
      let low = b.first sender w.frame inside sends in
      let one = b.only b.one b.one_is in
      let first : b.frame ≡ w.frame =
      left b.one b.frame b.sends (b.frame ≡ w.frame) (λ e. sym e)
      (λ d later. let high = later.recessive in absurd (omega arith))
      (λ l after.
      let is = same_frame (sent_by (other b.one)) one.frame b.frame one.sends b.sends in
      let no = one.least sender w.frame sends in
      let is_before : beats w.frame one.frame ≡ true = ap (λ f. beats w.frame f) is ∙ after in
      absurd cc) in
      left b.another b.its b.its_sends A (λ e. absurd (b.different (sym e ∙ sym first)))
      (λ d later. absurd (b.stays (subst (λ f. DropsOut (other b.another) f) (sym first) d)))
      (λ l after. absurd (b.drives_on (subst (λ f. Loses (other b.another) f) (sym first) l)))

  still_frame : (v : Winner) → Wins other v → v.frame ≡ w.frame
  still_frame v b =
      let t = b.some.0 in
      let its = b.theirs t b.some.1 in
      by_sent other v b sender w.frame sends (v.frame ≡ w.frame) (λ e. e)
      (λ later.
      left t v.frame its (v.frame ≡ w.frame) (λ e. sym e)
      (λ d also. let x = later.recessive in let y = also.recessive in absurd (omega arith))
      (λ l after. let no = later.not_before in absurd cc))
      (λ first.
      left t v.frame its (v.frame ≡ w.frame) (λ e. sym e) (λ d also. let no = also.not_before in absurd cc)
      (λ l after. let no = one_way w.frame v.frame after in absurd cc))

  pub still_won : (start : Start) → Starts other start → StillWon start w.frame
  still_won Nothing b = let none = b sender in let some = sends in absurd cc
  still_won (Collision who) b = no_collision who b _
  still_won (Won v) b = (v, refl, still_frame v b)
