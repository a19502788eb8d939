-- The number of the last change that contends with an object, while a history goes on. It names a change that stands; a change
-- that contends gives another number, once and for all, since no number comes twice; and where the number is another, some
-- port made a change.
use Rattle.std.proofs.Common.{append_assoc, ◌≡◌, ◌≢◌, ℕ, ◌<◌, ◌&&◌, Bool, true, false, [], ◌∷◌, ◌++◌, sym, refl, ap, ◌∙◌}
use Rattle.std.proofs.Common.{subst, inl, inr, ⊎_elim, arith}
use Rattle.ccan_ram.specs.declared.port.PortName.{PortName}
use Rattle.ccan_ram.specs.History.{History, is_change, changes_by, next_number, last_number, BeginsWith}
use Rattle.ccan_ram.specs.Sound.{Stands, IsMade}
use Rattle.ccan_ram.proofs.Booleans.{when, both_hold, chosen, passed}
use Rattle.ccan_ram.proofs.Counting.{changes_own}
use Rattle.ccan_ram.proofs.Histories.{changes_later}
use Rattle.ccan_ram.proofs.Numbers.{next_some, next_is_new, stands_after}

-- some port made a change between two histories
pub record Another (h g : History) : Type 0 where
  pub port : PortName
  pub more : changes_by port g < changes_by port h

module _ (contends : ℕ → ℕ → Bool) (k : ℕ) where
  pub last_stands : (h : History) → last_number contends k h ≢ 0 → IsMade h (last_number contends k h)
  last_stands [] nz = absurd (nz refl)
  last_stands (e ∷ h) nz = ⊎_elim
      (λ (t : (is_change e && contends e.object k) ≡ true). (
        e ∷ h,
        inl (
          (both_hold (is_change e) (contends e.object k) t).0,
          sym (chosen (is_change e && contends e.object k) _ _ t),
          refl,
        ),
      ))
      (λ (f : (is_change e && contends e.object k) ≡ false).
      let is : last_number contends k (e ∷ h) ≡ last_number contends k h = passed (is_change e && contends e.object k) _ _ f in
      let s = subst (λ (n : ℕ). IsMade h n) (sym is) (last_stands h (λ z. nz (is ∙ z))) in (s.0, inr s.1))
      (when (is_change e && contends e.object k))

  still_more : (more middle g : History) → last_number contends k (more ++ (middle ++ g)) ≡ last_number contends k g
      → last_number contends k (middle ++ g) ≡ last_number contends k g
  still_more [] middle g e = e
  still_more (e ∷ more) middle g same =
      let rest : History = more ++ (middle ++ g) in
      ⊎_elim
      (λ (t : (is_change e && contends e.object k) ≡ true).
      let is : last_number contends k (e ∷ rest) ≡ next_number e.port rest = chosen (is_change e && contends e.object k) _ _ t in
      let old : last_number contends k g ≡ next_number e.port rest = sym same ∙ is in
      let s = last_stands g (λ z. next_some rest e.port (sym old ∙ z)) in
      absurd (next_is_new rest e.port s.0
      (stands_after rest g (next_number e.port rest) s.0 (more ++ middle, sym (append_assoc more middle g))
      (subst (λ (n : ℕ). Stands g n s.0) old s.1))))
      (λ (f : (is_change e && contends e.object k) ≡ false).
      still_more more middle g (sym (passed (is_change e && contends e.object k) _ _ f) ∙ same))
      (when (is_change e && contends e.object k))

  -- a number that is again what it was was no other between
  pub stood_between : (h l g : History) → BeginsWith h l → BeginsWith l g
      → last_number contends k h ≡ last_number contends k g → last_number contends k l ≡ last_number contends k g
  stood_between h l g b c same =
      let is : h ≡ b.0 ++ (c.0 ++ g) = b.1 ∙ ap (λ (z : History). b.0 ++ z) c.1 in
      ap (last_number contends k) c.1 ∙ still_more b.0 c.0 g (ap (last_number contends k) (sym is) ∙ same)

  another_more : (more g : History) → last_number contends k (more ++ g) ≢ last_number contends k g → Another (more ++ g) g
  another_more [] g n = absurd (n refl)
  another_more (e ∷ more) g n = ⊎_elim
      (λ (t : is_change e ≡ true). let own = changes_own e (more ++ g) t in
      let a = changes_later e.port (more ++ g) g (more, refl) in
      record { port = e.port; more = omega arith })
      (λ (f : is_change e ≡ false).
      let is : (is_change e && contends e.object k) ≡ false = ap (λ (b : Bool). b && contends e.object k) f in
      let a = another_more more g (λ s. n (passed (is_change e && contends e.object k) _ _ is ∙ s)) in
      let u = a.more in
      let grow = changes_later a.port (e ∷ (more ++ g)) (more ++ g) (e ∷ [], refl) in
      record { port = a.port; more = omega arith })
      (when (is_change e))

  pub another : (h g : History) → BeginsWith h g → last_number contends k h ≢ last_number contends k g → Another h g
  another h g b n =
      subst (λ (z : History). Another z g) (sym b.1) (another_more b.0 g (λ s. n (ap (last_number contends k) b.1 ∙ s)))
