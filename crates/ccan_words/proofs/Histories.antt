-- What the number of the last change that contends tells of the records of the objects that share its word: at 0 nobody wrote
-- them, and else they are those that this change left. So where the number is what it was, they are too.
use native.Mathlib.Decide.{ℕ_discrete}
use mathlib.Core.Logic.{dite}
use Rattle.std.proofs.Common.{◌≡◌, ◌≢◌, ℕ, ◌==◌, ◌&&◌, Bool, true}
use Rattle.std.proofs.Common.{false, [], ◌∷◌, sym, refl, ap, ◌∙◌, subst, inl, inr, ⊎_elim, arith}
use Rattle.std.proofs.Common.{true≢false}
use Rattle.std.proofs.lemmas.Bool.{eqb-true}
use Rattle.ccan_ram.specs.declared.event.Event.{Event}
use Rattle.ccan_ram.specs.History.{is_change, record_at, next_number, last_number, BeginsWith, History}
use Rattle.ccan_words.specs.Layout.{IsChangeFor}
use Rattle.ccan_ram.specs.Sound.{Stands}
use Rattle.ccan_words.specs.Rule.{Latest}
use Rattle.ccan_ram.proofs.Booleans.{when, both_hold, both_true, chosen, passed}
use Rattle.ccan_ram.proofs.Numbers.{stands_after, stands_one}

module _ (contends : ℕ → ℕ → Bool) where
  untouched : (k : ℕ) (e : Event) (h : History) → (is_change e && contends e.object k) ≡ false → (i : ℕ) → contends i k ≡ true
      → record_at i (e ∷ h) ≡ record_at i h
  untouched k e h f i shares = passed (is_change e && (e.object == i)) _ _ (⊎_elim
      (λ (t : (is_change e && (e.object == i)) ≡ true). let b = both_hold (is_change e) (e.object == i) t in
      absurd (true≢false (sym (both_true (is_change e) (contends e.object k) b.0
      (subst (λ (z : ℕ). contends z k ≡ true) (sym (eqb-true e.object i b.1)) shares)) ∙ f)))
      (λ n. n)
      (when (is_change e && (e.object == i))))

  pub latest : (k : ℕ) (h : History) → Latest contends k (last_number contends k h) h
  latest k [] = record { none = λ _ i _. refl; some = λ n. absurd (n refl) }
  latest k (e ∷ h) = ⊎_elim
      (λ (t : (is_change e && contends e.object k) ≡ true).
      let is : last_number contends k (e ∷ h) ≡ next_number e.port h = chosen (is_change e && contends e.object k) _ _ t in
      let b = both_hold (is_change e) (contends e.object k) t in
      record { none = λ z. absurd (omega arith); some = λ _. (e ∷ h, inl (b.0, sym is, refl), b, λ i _. refl) })
      (λ (f : (is_change e && contends e.object k) ≡ false).
      let is : last_number contends k (e ∷ h) ≡ last_number contends k h = passed (is_change e && contends e.object k) _ _ f in
      let before = latest k h in let keep = untouched k e h f in
      record {
        none = λ z i c. keep i c ∙ before.none (sym is ∙ z) i c;
        some =
            λ n. let b = before.some (λ z. n (is ∙ z)) in
            (b.0, inr (subst (λ (m : ℕ). Stands h m b.0) (sym is) b.1), b.2, λ i c. b.3 i c ∙ sym (keep i c));
      })
      (when (is_change e && contends e.object k))

  -- where the number of the last change that contends is what it was, the objects that share the word have the records
  -- that they had
  pub unchanged : (h g : History) (k : ℕ) → BeginsWith h g → last_number contends k h ≡ last_number contends k g
      → (i : ℕ) → contends i k ≡ true → record_at i h ≡ record_at i g
  unchanged h g k b e i c = let now = latest k h in let then = latest k g in dite (ℕ_discrete (last_number contends k g) 0)
      (λ z. now.none (e ∙ z) i c ∙ sym (then.none z i c))
      (λ nz. let t = then.some nz in
      let s = subst (λ (m : ℕ). (m ≢ 0)
      → (at : History) × Stands h m at × IsChangeFor contends k at ×
      ((i : ℕ) → contends i k ≡ true → record_at i at ≡ record_at i h)) e now.some nz in
      let one : s.0 ≡ t.0 =
      stands_one h (last_number contends k g) s.0 t.0 s.1 (stands_after h g (last_number contends k g) t.0 b t.1) in
      sym (s.3 i c) ∙ (ap (record_at i) one ∙ t.3 i c))
