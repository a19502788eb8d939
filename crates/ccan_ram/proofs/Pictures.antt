-- Looks at all objects change nothing.
use Rattle.std.proofs.Common.{true, ◌≡◌, ℕ, zero, suc, ◌+◌, ◌-◌, ◌<◌, ◌≤◌, Bool, List, [], ◌++◌, get_or, sym, ap}
use Rattle.std.proofs.Common.{refl, ◌∙◌, arith}
use Rattle.std.proofs.lemmas.List.{append-nil}
use Rattle.ccan_object.specs.declared.profile.Profile.{Profile}
use Rattle.ccan_object.specs.declared.record.Record.{Record}
use Rattle.ccan_object.specs.Record.{zero_record}
use Rattle.ccan_object.specs.Profile.{objects_in}
use Rattle.ccan_ram.specs.declared.port.PortName.{PortName}
use Rattle.ccan_ram.specs.declared.event.Event.{Event}
use Rattle.ccan_ram.specs.declared.handler_registers.HandlerRegisters.{HandlerRegisters}
use Rattle.ccan_ram.specs.History.{IsLegal, record_at, changes_by, last_number}
use Rattle.ccan_ram.specs.Terms.{Terms, one_thread_terms}
use Rattle.ccan_ram.specs.HandlerRegisters.{registers_at}
use Rattle.ccan_ram.specs.Array.{Explains, passes_of}
use Rattle.ccan_ram.specs.Picture.{pictured, Turn, LostTurns, IsPicture, AddsPicture}
use Rattle.ccan_ram.proofs.Histories.{nobody}

pub pictured_record : (p : PortName) (n k : ℕ) (h g : List Event) → record_at k (pictured p n h ++ g) ≡ record_at k g
pictured_record p zero k h g = refl
pictured_record p (suc n) k h g = pictured_record p n k h g

pub pictured_changes : (p q : PortName) (n : ℕ) (h g : List Event) → changes_by q (pictured p n h ++ g) ≡ changes_by q g
pictured_changes p q zero h g = refl
pictured_changes p q (suc n) h g = pictured_changes p q n h g

pub pictured_last : (contends : ℕ → ℕ → Bool) (p : PortName) (n k : ℕ) (h g : List Event)
    → last_number contends k (pictured p n h ++ g) ≡ last_number contends k g
pictured_last contends p zero k h g = refl
pictured_last contends p (suc n) k h g = pictured_last contends p n k h g

pub pictured_legal : (profile : Profile) (p : PortName) (n : ℕ) (h : List Event) → n ≤ objects_in profile → IsLegal profile h
    → IsLegal profile (pictured p n h ++ h)
pictured_legal profile p zero h l legal = legal
pictured_legal profile p (suc n) h l legal = (
  record {
    held = record { least = omega arith; greatest = l };
    before = sym (pictured_record p n (suc n) h h);
    after = refl;
    stands = refl;
  },
  pictured_legal profile p n h (omega arith) legal,
)

-- ---- the registers of a plain memory

-- the place of an object among the records
pub left_at : {profile : Profile} {records : List Record} {used : List ℕ} {seen : List Event} (i : ℕ) (r : Record)
    → i < objects_in profile → r ≡ get_or records i zero_record → Explains profile records used seen
    → r ≡ record_at (i + 1) seen
left_at {profile} {records} {used} {seen} i r less is h =
    let at : i + 1 - 1 ≡ i = omega arith in
    is ∙ (ap (λ (n : ℕ). get_or records n zero_record) (sym at)
    ∙ sym (h.left (i + 1) (record { least = omega arith; greatest = omega arith })))

module _ (profile : Profile) (records : List Record) (used : List ℕ) (port : PortName) (quota : ℕ) (shown : HandlerRegisters)
    (all : (seen : List Event) → Explains profile records used seen → shown ≡ registers_at profile seen) where
  Explains-picture : (seen : List Event) → Explains profile records used seen
      → Explains profile records used (pictured port (objects_in profile) seen ++ seen)
  Explains-picture seen h = record {
    legal = pictured_legal profile port (objects_in profile) seen (omega arith) h.legal;
    left = λ object held. pictured_record port (objects_in profile) object seen seen ∙ h.left object held;
    counts = λ q. pictured_changes port q (objects_in profile) seen seen ∙ h.counts q;
  }

  -- a picture of a plain memory
  pub pictures : AddsPicture (passes_of profile records used port quota) (passes_of profile records used port quota) shown
  pictures =
      let terms : Terms = one_thread_terms profile port quota in
      record {
        same = refl;
        each = λ seen h. let shots = pictured port (objects_in profile) seen in (
          shots,
          Explains-picture seen h,
          record {
            times = 0;
            lost = [];
            last = shots;
            few = omega arith;
            whole = sym (append-nil shots);
            lose = refl;
            turn = record {
              before = [];
              after = [];
              foreign_before = nobody terms;
              foreign_after = nobody terms;
              whole = sym (append-nil shots);
            };
            shows = all seen h;
          },
        );
      }

-- ---- a caller during whose calls nobody else acts

module _ (terms : Terms) (alone : terms.alone ≡ true) where
  alone_turn : (seen added : List Event) → Turn terms seen added → added ≡ pictured terms.port (objects_in terms.profile) seen
  alone_turn seen added t =
      let before = t.foreign_before.none_alone alone in
      let after = t.foreign_after.none_alone alone in
      t.whole
      ∙ ((λ i. after i ++ (pictured terms.port (objects_in terms.profile) (before i ++ seen) ++ before i)) ∙ append-nil _)

  none_lost : (n : ℕ) (seen added : List Event) → LostTurns terms n seen added → added ≡ []
  none_lost zero seen added none = none
  none_lost (suc n) seen added (last, earlier, whole, lost, rest) =
      let is = alone_turn (earlier ++ seen) last lost.turn in
      let same : changes_by lost.other (last ++ (earlier ++ seen)) ≡ changes_by lost.other (earlier ++ seen) =
      ap (λ (es : List Event). changes_by lost.other (es ++ (earlier ++ seen))) is
      ∙ pictured_changes terms.port lost.other (objects_in terms.profile) (earlier ++ seen) (earlier ++ seen) in
      let less = lost.changed in
      absurd (omega arith)

  -- its picture stands right behind what it had seen
  pub alone_added : (shown : HandlerRegisters) (seen added : List Event) → IsPicture terms shown seen added
      → added ≡ pictured terms.port (objects_in terms.profile) seen
  alone_added shown seen added p =
      let none = none_lost p.times seen p.lost p.lose in
      p.whole
      ∙ (ap (λ (es : List Event). p.last ++ es) none
      ∙ (append-nil p.last
      ∙ (alone_turn (p.lost ++ seen) p.last p.turn
      ∙ ap (λ (es : List Event). pictured terms.port (objects_in terms.profile) (es ++ seen)) none)))

  pub alone_shown : (shown : HandlerRegisters) (seen added : List Event) → IsPicture terms shown seen added
      → shown ≡ registers_at terms.profile seen
  alone_shown shown seen added p =
      let none = none_lost p.times seen p.lost p.lose in
      let before = p.turn.foreign_before.none_alone alone in
      p.shows ∙ (λ i. registers_at terms.profile (before i ++ (none i ++ seen)))

-- a picture with nobody between
pub plain_picture : (terms : Terms) (shown : HandlerRegisters) (seen : List Event) → shown ≡ registers_at terms.profile seen
    → IsPicture terms shown seen (pictured terms.port (objects_in terms.profile) seen)
plain_picture terms shown seen is =
    let shots = pictured terms.port (objects_in terms.profile) seen in
    record {
      times = 0;
      lost = [];
      last = shots;
      few = omega arith;
      whole = sym (append-nil shots);
      lose = refl;
      turn = record {
        before = [];
        after = [];
        foreign_before = nobody terms;
        foreign_after = nobody terms;
        whole = sym (append-nil shots);
      };
      shows = is;
    }
