-- What is answered of one picture is so at one place of the history.
use Rattle.std.proofs.Common.{ℕ, zero, suc, ◌≡◌, ◌≤◌, ◌<◌, ◌+◌, ◌-◌, ◌^◌, ◌⊎◌, ◌&&◌, true, false, List, [], ◌++◌}
use Rattle.std.proofs.Common.{append_assoc, refl, sym, ap, ◌∙◌, subst, arith, inl, inr, ⊎_elim, Ok}
use Rattle.std.proofs.lemmas.Bool.{cases_lt}
use Rattle.std.proofs.lemmas.Nat.Bits.{bit_at-zero}
use Rattle.ccan_object.specs.declared.record.Record.{Record}
use Rattle.ccan_object.specs.Bits.{bit}
use Rattle.ccan_object.specs.Profile.{objects_in}
use Rattle.ccan_accept.specs.Send.{is_ready}
use Rattle.ccan_ram.specs.declared.change.Changed.TheVariants.{NotNow}
use Rattle.ccan_ram.specs.declared.event.Event.{Event}
use Rattle.ccan_ram.specs.declared.flag.Flag.{Flag}
use Rattle.ccan_ram.specs.declared.flag.Flag.TheVariants.{IntPnd, TxRqst, MsgVal}
use Rattle.ccan_ram.specs.declared.handler_registers.HandlerRegisters.{HandlerRegisters}
use Rattle.ccan_ram.specs.declared.sending.Sending.{Sending}
use Rattle.ccan_ram.specs.Attempt.{Attempt}
use Rattle.ccan_ram.specs.Sending.{start_by}
use Rattle.ccan_ram.specs.Flags.{flag_of}
use Rattle.ccan_ram.specs.HandlerRegisters.{register_of, registers_at}
use Rattle.ccan_ram.specs.History.{record_at}
use Rattle.ccan_ram.specs.Picture.{pictured, IsPicture}
use Rattle.ccan_ram.specs.Terms.{Terms}
use Rattle.ccan_ram.proofs.Registers.{register_bit, registers_below}
use Rattle.ccan_handler.specs.Moment.{Skips, was_ready, FlagsAreOfOneMoment, InterruptIsOfOneMoment, IsWithdrawn, ChoiceIsOfOneMoment}
use Rattle.ccan_handler.proofs.Moments.{set_below}

-- where the looks of a picture stand
module _ (terms : Terms) (shown : HandlerRegisters) (seen added : List Event) (p : IsPicture terms shown seen added) where
  abbrev pub before : List Event
  before = p.turn.before ++ p.lost

  abbrev pub after : List Event
  after = p.turn.after ++ pictured terms.port (objects_in terms.profile) (p.turn.before ++ (p.lost ++ seen))

  pub parts : added ≡ after ++ before
  parts =
      let shots = pictured terms.port (objects_in terms.profile) (p.turn.before ++ (p.lost ++ seen)) in
      p.whole
      ∙ (ap (λ (es : List Event). es ++ p.lost) p.turn.whole
      ∙ (append_assoc p.turn.after (shots ++ p.turn.before) p.lost
      ∙ (ap (λ (es : List Event). p.turn.after ++ es) (append_assoc shots p.turn.before p.lost)
      ∙ sym (append_assoc p.turn.after shots before))))

  shown_there : shown ≡ registers_at terms.profile (before ++ seen)
  shown_there = p.shows ∙ ap (registers_at terms.profile) (sym (append_assoc p.turn.before p.lost seen))

  pub flag_there : (flag : Flag) (k : ℕ) → k < objects_in terms.profile
      → bit (register_of flag shown) k ≡ flag_of flag (record_at (k + 1) (before ++ seen))
  flag_there flag k less =
      ap (λ (r : HandlerRegisters). bit (register_of flag r) k) shown_there
      ∙ register_bit flag (objects_in terms.profile) k (before ++ seen) less

  pub none_beyond : (flag : Flag) → register_of flag shown < 2 ^ objects_in terms.profile
  none_beyond flag = registers_below (objects_in terms.profile) shown (before ++ seen) shown_there flag

  pub ready_there : (k : ℕ) → k < objects_in terms.profile
      → was_ready shown (k + 1) ≡ is_ready (record_at (k + 1) (before ++ seen))
  ready_there k less =
      let place : k + 1 - 1 ≡ k = omega arith in
      ap (λ (i : ℕ). bit shown.msgval i && bit shown.txrqst i) place
      ∙ (λ i. flag_there MsgVal k less i && flag_there TxRqst k less i)

-- ---- flags and interrupts

pub flags_of_one_moment : FlagsAreOfOneMoment
flags_of_one_moment terms flag word seen added f = record {
  later = after terms f.shown seen added f.picture;
  earlier = before terms f.shown seen added f.picture;
  whole = parts terms f.shown seen added f.picture;
  so = λ k less. ap (λ (w : ℕ). bit w k) f.is ∙ flag_there terms f.shown seen added f.picture flag k less;
}

pub interrupt_of_one_moment : InterruptIsOfOneMoment
interrupt_of_one_moment terms value seen added (shown, p, inl (none, word)) = record {
  later = after terms shown seen added p;
  earlier = before terms shown seen added p;
  whole = parts terms shown seen added p;
  so = inl (
    none,
    λ k less. let zero = bit_at-zero k in
        sym (flag_there terms shown seen added p IntPnd k less) ∙ rw (word, zero) refl,
  );
}
interrupt_of_one_moment terms value seen added (shown, p, inr (place, is, set, first)) =
    let less = set_below shown.intpnd (objects_in terms.profile) place (none_beyond terms shown seen added p IntPnd) set in
    record {
      later = after terms shown seen added p;
      earlier = before terms shown seen added p;
      whole = parts terms shown seen added p;
      so = inr (
        record { least = omega (arith, is); greatest = omega (arith, is, less) },
        ap (λ (k : ℕ). flag_of IntPnd (record_at k (before terms shown seen added p ++ seen))) is
            ∙ (sym (flag_there terms shown seen added p IntPnd place less) ∙ set),
        λ k under. sym (flag_there terms shown seen added p IntPnd k (omega (arith, is, less, under)))
            ∙ first k (omega (arith, is, under)),
      );
    }

-- ---- a choice

withdrawn_more : (terms : Terms) (sending : Sending) (tries object : ℕ) (seen last earlier : List Event)
    → IsWithdrawn terms sending tries object seen earlier
    → IsWithdrawn terms sending tries object seen (last ++ earlier)
withdrawn_more terms sending tries object seen last earlier w = record {
  later = last ++ w.later;
  tried = w.tried;
  earlier = w.earlier;
  now = w.now;
  whole = ap (λ (es : List Event). last ++ es) w.whole ∙ sym (append_assoc last w.later (w.tried ++ w.earlier));
  attempt = w.attempt;
}

-- events that were added before
withdrawn_later : (terms : Terms) (sending : Sending) (tries object : ℕ) (seen looked added : List Event)
    → IsWithdrawn terms sending tries object (looked ++ seen) added
    → IsWithdrawn terms sending tries object seen (added ++ looked)
withdrawn_later terms sending tries object seen looked added w = record {
  later = w.later;
  tried = w.tried;
  earlier = w.earlier ++ looked;
  now = w.now;
  whole = ap (λ (es : List Event). es ++ looked) w.whole
      ∙ (append_assoc w.later (w.tried ++ w.earlier) looked
      ∙ ap (λ (es : List Event). w.later ++ es) (append_assoc w.tried w.earlier looked));
  attempt = subst (λ (es : List Event). Attempt terms object (start_by sending) tries es w.tried (Ok (NotNow w.now)))
      (sym (append_assoc w.earlier looked seen)) w.attempt;
}

skipped : (terms : Terms) (sending : Sending) (shown : HandlerRegisters) (tries n k : ℕ) (seen added : List Event)
    → Skips terms sending shown tries n seen added → k < n
    → (was_ready shown (k + 1) ≡ false) ⊎ IsWithdrawn terms sending tries (k + 1) seen added
skipped terms sending shown tries zero k seen added s less = absurd (omega arith)
skipped terms sending shown tries (suc n) k seen added (last, earlier, whole, here, rest) less =
    ⊎_elim
    (λ (l : k < n). ⊎_elim
    (λ (unready : was_ready shown (k + 1) ≡ false). inl unready)
    (λ (w : IsWithdrawn terms sending tries (k + 1) seen earlier).
    inr (subst (IsWithdrawn terms sending tries (k + 1) seen) (sym whole)
    (withdrawn_more terms sending tries (k + 1) seen last earlier w)))
    (skipped terms sending shown tries n k seen earlier rest l))
    (λ (g : n ≤ k).
    let next : suc n ≡ k + 1 = omega (arith, g, less) in
    ⊎_elim
    (λ (u : (was_ready shown (suc n) ≡ false) × (last ≡ [])). inl (ap (was_ready shown) (sym next) ∙ u.0))
    (λ (u : (was_ready shown (suc n) ≡ true) × (now : Record)
    × Attempt terms (suc n) (start_by sending) tries (earlier ++ seen) last (Ok (NotNow now))). inr (record {
      later = [];
      tried = last;
      earlier = earlier;
      now = u.1;
      whole = whole;
      attempt = subst (λ (o : ℕ). Attempt terms o (start_by sending) tries (earlier ++ seen) last (Ok (NotNow u.1))) next u.2;
    }))
    here)
    (cases_lt k n)

pub choice_of_one_moment : ChoiceIsOfOneMoment
choice_of_one_moment terms sending tries object after_it seen added c =
    let p = c.picture in
    let s = c.choice in
    let ready = ready_there terms c.shown seen c.looked p in
    record {
      later = c.tried ++ after terms c.shown seen c.looked p;
      earlier = before terms c.shown seen c.looked p;
      whole = c.whole ∙ (ap (λ (es : List Event). c.tried ++ es) (parts terms c.shown seen c.looked p)
          ∙ sym (append_assoc c.tried (after terms c.shown seen c.looked p) (before terms c.shown seen c.looked p)));
      so = (
        ap (λ (o : ℕ). is_ready (record_at o (before terms c.shown seen c.looked p ++ seen))) s.is
            ∙ (sym (ready s.below s.held) ∙ (ap (was_ready c.shown) (sym s.is) ∙ s.start.0)),
        λ k less. let held = s.held in
            let below : k < s.below = omega (arith, s.is, less) in
            ⊎_elim
            (λ (unready : was_ready c.shown (k + 1) ≡ false). inl (sym (ready k (omega (arith, below, held))) ∙ unready))
            (λ (w : IsWithdrawn terms sending tries (k + 1) (c.looked ++ seen) s.skipped).
            inr (subst (IsWithdrawn terms sending tries (k + 1) seen) (sym c.whole)
            (withdrawn_later terms sending tries (k + 1) seen c.looked c.tried
            (subst (IsWithdrawn terms sending tries (k + 1) (c.looked ++ seen)) (sym s.whole)
            (withdrawn_more terms sending tries (k + 1) (c.looked ++ seen) s.last s.skipped w)))))
            (skipped terms sending c.shown tries s.below k (c.looked ++ seen) s.skipped s.skips below),
      );
    }
