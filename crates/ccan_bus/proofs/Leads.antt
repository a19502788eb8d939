-- The frame that leads among those so far.
use Rattle.std.proofs.Common.{ℕ, zero, suc, ◌≡◌, ◌≢◌, ◌≤◌, ◌<◌, ◌+◌, ◌==◌, Bool, true, false, ◌||◌, cond, List, [], ◌∷◌, length, map, get_or, refl, sym, ap, subst, ◌∙◌, arith}
use Rattle.std.specs.Prelude.{nat_lt}
use Rattle.std.proofs.lemmas.List.{get_or-map}
use Rattle.std.proofs.Math.ListN.{length-map}
use Rattle.std.proofs.lemmas.Bool.Decides.{nat_tests}
use Rattle.ccan_accept.specs.declared.frame.Frame.{Frame}
use Rattle.ccan_bus.specs.declared.lead.Lead.{Lead}
use Rattle.ccan_bus.specs.Arbitration.{arbitration_bits, precedes, list_at, Wins, Collide}
use Rattle.ccan_bus.specs.Lead.{value_of, packed, next_lead}
use Rattle.ccan_bus.proofs.Order.{packed-order, total}

-- one of the first numbers is the least, and whether another equals it
pub record Leads (key : ℕ → ℕ) (count : ℕ) (lead : Lead) : Type 0 where
  pub within : lead.place < count
  pub own : lead.number ≡ key lead.place
  pub floor : (k : ℕ) → k < count → lead.number ≤ key k
  pub alone : lead.tied ≡ false → (k : ℕ) → k < count → k ≢ lead.place → lead.number < key k
  pub another : lead.tied ≡ true → (j : ℕ) × (j < count) × (j ≢ lead.place) × (key j ≡ lead.number)

module _ (key : ℕ → ℕ) (n : ℕ) (number : ℕ) (is : number ≡ key n) where
  at_last : (k : ℕ) → k < n + 1 → (k < n → ⊥) → key k ≡ number
  at_last k h not = let e : k ≡ n = omega arith in ap key e ∙ sym is

  by_last : {P : Type 0} (k : ℕ) → k < n + 1 → (k < n → P) → (k ≡ n → P) → P
  by_last {P} k h low last = elim (nat_lt k n) as (λ b. nat_lt k n ≡ b → P) [
    | true ↦ λ e. low (grind (arith, nat_tests))
    | false ↦ λ e. last (let out : n ≤ k = grind (arith, nat_tests) in omega arith)
  ] refl

  more : (place old : ℕ) (tied below same : Bool) → nat_lt number old ≡ below → (number == old) ≡ same
      → Leads key n (record { place = place; number = old; tied = tied })
      → Leads key (n + 1) (cond below (record { place = n; number = number; tied = false })
      (record { place = place; number = old; tied = tied || same }))
  more place old tied true same b e h =
      let less : number < old = grind (arith, nat_tests) in
      record {
        within = omega arith;
        own = is;
        floor = λ k lt. by_last k lt (λ l. let f = h.floor k l in omega arith) (λ l. let w = ap key l in omega arith);
        alone = λ t k lt other. by_last k lt (λ l. let f = h.floor k l in omega arith) (λ l. absurd (other l));
        another = λ t. absurd cc;
      }
  more place old true false same b e h =
      let less : old ≤ number = grind (arith, nat_tests) in
      let a = h.another refl in
      let w = h.within in
      record {
        within = omega arith;
        own = h.own;
        floor = λ k lt. by_last k lt (λ l. h.floor k l) (λ l. let w = ap key l in omega arith);
        alone = λ t. absurd cc;
        another = λ t. (a.0, omega arith, a.2, a.3);
      }
  more place old false false true b e h =
      let less : old ≤ number = grind (arith, nat_tests) in
      let equal : number ≡ old = grind (arith, nat_tests) in
      let w = h.within in
      record {
        within = omega arith;
        own = h.own;
        floor = λ k lt. by_last k lt (λ l. h.floor k l) (λ l. let w = ap key l in omega arith);
        alone = λ t. absurd cc;
        another = λ t. (n, omega arith, omega arith, sym is ∙ equal);
      }
  more place old false false false b e h =
      let less : old < number = grind (arith, nat_tests) in
      let w = h.within in
      record {
        within = omega arith;
        own = h.own;
        floor = λ k lt. by_last k lt (λ l. h.floor k l) (λ l. let w = ap key l in omega arith);
        alone = λ t k lt other. by_last k lt (λ l. h.alone refl k l other) (λ l. let w = ap key l in omega arith);
        another = λ t. absurd cc;
      }

  pub Leads-more : (lead new : Lead) → new ≡ next_lead lead n number → Leads key n lead → Leads key (n + 1) new
  Leads-more lead new e h = rw e (more lead.place lead.number lead.tied _ _ refl refl h)

pub Leads-first : (key : ℕ → ℕ) (number : ℕ) → number ≡ key 0 → Leads key 1 (record { place = 0; number = number; tied = false })
Leads-first key number is =
    record {
      within = omega arith;
      own = is;
      floor = λ k lt. (let e : k ≡ 0 = omega arith in let w = ap key e in omega arith);
      alone = λ t k lt other. absurd (omega arith);
      another = λ t. absurd cc;
    }

-- the numbers of frames in their places
abbrev pub key_of : List Frame → ℕ → ℕ
key_of frames k = value_of 32 (list_at (map arbitration_bits frames) k)

module _ where
  -- each list is that of a frame
  field : (frames : List Frame) (k : ℕ) → k < length (map arbitration_bits frames)
      → (f : Frame) × (list_at (map arbitration_bits frames) k ≡ arbitration_bits f)
  field [] k h = absurd (omega arith)
  field (f ∷ frames) zero h = (f, refl)
  field (f ∷ frames) (suc k) h = field frames k (omega arith)

  pub in_order : (frames : List Frame) (j k : ℕ) → j < length (map arbitration_bits frames)
      → k < length (map arbitration_bits frames)
      → precedes (list_at (map arbitration_bits frames) j) (list_at (map arbitration_bits frames) k)
      ≡ nat_lt (key_of frames j) (key_of frames k)
  unfolding packed
  in_order frames j k p q =
      let a = field frames j p in
      let b = field frames k q in
      rw (a.1, b.1) (packed-order a.0 b.0)

  pub wins : (frames : List Frame) (lead : Lead) → lead.tied ≡ false
      → Leads (key_of frames) (length (map arbitration_bits frames)) lead
      → Wins (map arbitration_bits frames) lead.place
  wins frames lead t h =
      record {
        takes_part = h.within;
        first = λ other lt ne.
            let less = h.alone t other lt ne in
            let own = h.own in
            let here : nat_lt (key_of frames lead.place) (key_of frames other) ≡ true = grind (arith, nat_tests) in
            in_order frames lead.place other h.within lt ∙ here;
      }

  none_before : (frames : List Frame) (lead : Lead) → Leads (key_of frames) (length (map arbitration_bits frames)) lead
      → (other j : ℕ) → key_of frames j ≡ lead.number → j < length (map arbitration_bits frames)
      → other < length (map arbitration_bits frames)
      → precedes (list_at (map arbitration_bits frames) other) (list_at (map arbitration_bits frames) j) ≡ false
  none_before frames lead h other j e p q =
      let low = h.floor other q in
      let here : nat_lt (key_of frames other) (key_of frames j) ≡ false = grind (arith, nat_tests) in
      in_order frames other j q p ∙ here

  pub collide : (frames : List Frame) (lead : Lead) → lead.tied ≡ true
      → Leads (key_of frames) (length (map arbitration_bits frames)) lead
      → Collide (map arbitration_bits frames)
  collide frames lead t h =
      let a = h.another t in
      record {
        one = lead.place;
        another = a.0;
        two = λ e. a.2 (sym e);
        one_takes_part = h.within;
        another_takes_part = a.1;
        same =
            total _ _ (none_before frames lead h lead.place a.0 a.3 a.1 h.within) (none_before frames lead h a.0 lead.place
            (sym h.own) h.within a.1);
        first = λ other lt. none_before frames lead h other lead.place (sym h.own) h.within lt;
      }

  pub key_at : (frames : List Frame) (k : ℕ) (f : Frame) → k < length frames → f ≡ get_or frames k f → packed f ≡ key_of frames k
  unfolding packed
  key_at frames k f h is = ap packed is ∙ ap (value_of 32) (sym (get_or-map arbitration_bits frames k f [] h))

  pub outcome : (frames : List Frame) (lead : Lead) (count : ℕ) → count ≡ length frames → Leads (key_of frames) count lead
      → Leads (key_of frames) (length (map arbitration_bits frames)) lead
  outcome frames lead count is h =
      subst (λ n. Leads (key_of frames) n lead) (let e : length (map arbitration_bits frames)
      ≡ length frames = simp length-map in is ∙ sym e) h
