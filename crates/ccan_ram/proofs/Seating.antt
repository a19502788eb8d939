-- Seats that hold what there is for each port: one that is split, and two that are joined. Each holding of the new seats was
-- one of the old seats, and no port comes into two seats. `Old i v` and `New i v` say that v is what seat i holds.
use Rattle.std.proofs.Common.{◌≡◌, ◌≢◌, ℕ, ◌⊎◌, sym, ◌∙◌, subst, inl, inr, ⊎_elim, refl, Option, Some, None}
use Rattle.ccan_ram.specs.declared.port.PortName.{PortName}
use Rattle.ccan_ram.specs.declared.by_port.ByPort.{ByPort}
use Rattle.ccan_ram.specs.ByPort.{holding, with_held, nothing, only, together}
use Rattle.ccan_ram.proofs.Ports.{port_discrete}
use Rattle.ccan_ram.proofs.Holding.{one_of, holding-with_held_same, holding-with_held_other, holding-nothing, holding-together}

module _ {H : Type 0} where
  -- where a holding of the new seats was
  pub record Was (Old : ℕ → ByPort H → Type 0) (p : PortName) (y : H) (i : ℕ) : Type 0 where
    pub view : ByPort H
    pub seat : Old i view
    pub held : holding p view ≡ Some y

  -- each holding of the new seats was one of the old
  abbrev pub AllWere : (ℕ → ByPort H → Type 0) → (ℕ → ByPort H → Type 0) → Type 0
  AllWere Old New = (i : ℕ) (p : PortName) (u : ByPort H) (y : H) → New i u → holding p u ≡ Some y → (j : ℕ) × Was Old p y j

  -- no two seats hold the same port
  abbrev pub AreApart : (ℕ → ByPort H → Type 0) → Type 0
  AreApart Old = (i j : ℕ) (p : PortName) (u t : ByPort H) (x y : H) → Old i u → Old j t → holding p u ≡ Some x
      → holding p t ≡ Some y → i ≡ j

  held_by_only : (p q : PortName) (o : Option H) (y : H) → holding q (only p o) ≡ Some y → (q ≡ p) × (o ≡ Some y)
  held_by_only p q o y e = ⊎_elim
      (λ (same : q ≡ p).
      (same, sym (holding-with_held_same p o nothing) ∙ subst (λ (z : PortName). holding z (only p o) ≡ Some y) same e))
      (λ (n : q ≢ p). absurd (holding-nothing q y (sym (holding-with_held_other p q o nothing n) ∙ e)))
      (port_discrete q p)

  held_without : (p q : PortName) (v : ByPort H) (y : H) → holding q (with_held p None v) ≡ Some y
      → (q ≢ p) × (holding q v ≡ Some y)
  held_without p q v y e = ⊎_elim
      (λ (same : q ≡ p). let t : holding p (with_held p None v) ≡ Some y = subst
      (λ (z : PortName). holding z (with_held p None v) ≡ Some y) same e in
      let u = holding-with_held_same p None v in absurd (cc))
      (λ (n : q ≢ p). (n, sym (holding-with_held_other p q None v n) ∙ e))
      (port_discrete q p)

  -- ---- a seat is split

  module _ {Old Cut New : ℕ → ByPort H → Type 0} (apart : AreApart Old) (id end : ℕ) (p : PortName) (v : ByPort H) (at : Old id v)
      (at_cut : (i : ℕ) (u : ByPort H) → Cut i u → ((i ≡ id) × (with_held p None v ≡ u)) ⊎ ((i ≢ id) × Old i u))
      (at_new : (i : ℕ) (u : ByPort H) → New i u → Cut i u ⊎ ((i ≡ end) × (only p (holding p v) ≡ u))) where
    abbrev left : ByPort H
    left = with_held p None v

    abbrev right : ByPort H
    right = only p (holding p v)

    kept : (i : ℕ) (q : PortName) (u : ByPort H) (y : H) → Cut i u → holding q u ≡ Some y → Was Old q y i
    kept i q u y a h = ⊎_elim
        (λ (b : (i ≡ id) × (left ≡ u)).
        let c = held_without p q v y (subst (λ (z : ByPort H). holding q z ≡ Some y) (sym b.1) h) in
        record { view = v; seat = subst (λ (z : ℕ). Old z v) (sym b.0) at; held = c.1 })
        (λ (b : (i ≢ id) × Old i u). record { view = u; seat = b.1; held = h })
        (at_cut i u a)

    clash : (i : ℕ) (q : PortName) (u t : ByPort H) (x y : H) → Cut i u → holding q u ≡ Some x → right ≡ t
        → holding q t ≡ Some y → ⊥
    clash i q u t x y a h e k =
        let c = held_by_only p q (holding p v) y (subst (λ (z : ByPort H). holding q z ≡ Some y) (sym e) k) in
        let here : holding q v ≡ Some y = subst (λ (z : PortName). holding z v ≡ Some y) (sym c.0) c.1 in ⊎_elim
        (λ (b : (i ≡ id) × (left ≡ u)). (held_without p q v x (subst (λ (z : ByPort H). holding q z ≡ Some x) (sym b.1) h)).0 c.0)
        (λ (b : (i ≢ id) × Old i u). b.0 (apart i id q u v x y b.1 at h here))
        (at_cut i u a)

    pub split_were : AllWere Old New
    split_were i q u y e h = ⊎_elim
        (λ (a : Cut i u). (i, kept i q u y a h))
        (λ (a : (i ≡ end) × (right ≡ u)).
        let b = held_by_only p q (holding p v) y (subst (λ (z : ByPort H). holding q z ≡ Some y) (sym a.1) h) in
        (id, record { view = v; seat = at; held = subst (λ (z : PortName). holding z v ≡ Some y) (sym b.0) b.1 }))
        (at_new i u e)

    pub split_apart : AreApart New
    split_apart i j q u t x y e f h k = ⊎_elim
        (λ (a : Cut i u). ⊎_elim
        (λ (b : Cut j t). let m = kept i q u x a h in
        let n = kept j q t y b k in apart i j q m.view n.view x y m.seat n.seat m.held n.held)
        (λ (b : (j ≡ end) × (right ≡ t)). absurd (clash i q u t x y a h b.1 k))
        (at_new j t f))
        (λ (a : (i ≡ end) × (right ≡ u)). ⊎_elim
        (λ (b : Cut j t). absurd (clash j q t u y x b k a.1 h))
        (λ (b : (j ≡ end) × (right ≡ t)). a.0 ∙ sym b.0)
        (at_new j t f))
        (at_new i u e)

-- ---- two seats are joined

-- which seat the holding of a seat was at
abbrev From : ℕ → ℕ → ℕ → ℕ → Type 0
From id other i j = ((i ≡ id) × ((j ≡ id) ⊎ (j ≡ other))) ⊎ ((i ≢ id) × (i ≢ other) × (j ≡ i))

one_from : (id other a b i j : ℕ) → a ≡ b → From id other i a → From id other j b → i ≡ j
one_from id other a b i j same f g = ⊎_elim
    (λ (x : (i ≡ id) × ((a ≡ id) ⊎ (a ≡ other))). ⊎_elim
    (λ (y : (j ≡ id) × ((b ≡ id) ⊎ (b ≡ other))). x.0 ∙ sym y.0)
    (λ (y : (j ≢ id) × (j ≢ other) × (b ≡ j)).
    ⊎_elim (λ (z : a ≡ id). absurd (y.0 (sym y.2 ∙ (sym same ∙ z))))
    (λ (z : a ≡ other). absurd (y.1 (sym y.2 ∙ (sym same ∙ z)))) x.1)
    g)
    (λ (x : (i ≢ id) × (i ≢ other) × (a ≡ i)). ⊎_elim
    (λ (y : (j ≡ id) × ((b ≡ id) ⊎ (b ≡ other))).
    ⊎_elim (λ (z : b ≡ id). absurd (x.0 (sym x.2 ∙ (same ∙ z)))) (λ (z : b ≡ other). absurd (x.1 (sym x.2 ∙ (same ∙ z)))) y.1)
    (λ (y : (j ≢ id) × (j ≢ other) × (b ≡ j)). sym x.2 ∙ (same ∙ y.2))
    g)
    f

module _ {H : Type 0} {Old Wide New : ℕ → ByPort H → Type 0} (apart : AreApart Old) (id other : ℕ) (v w : ByPort H)
    (at : Old id v) (there : Old other w)
    (at_wide : (i : ℕ) (u : ByPort H) → Wide i u → ((i ≡ id) × (together v w ≡ u)) ⊎ ((i ≢ id) × Old i u))
    (at_new : (i : ℕ) (u : ByPort H) → New i u → ((i ≡ other) × (nothing ≡ u)) ⊎ ((i ≢ other) × Wide i u)) where
  was : (i : ℕ) (q : PortName) (u : ByPort H) (y : H) → New i u → holding q u ≡ Some y
      → (j : ℕ) × Was Old q y j × From id other i j
  was i q u y e h = ⊎_elim
      (λ (a : (i ≡ other) × (nothing ≡ u)).
      absurd (holding-nothing q y (subst (λ (z : ByPort H). holding q z ≡ Some y) (sym a.1) h)))
      (λ (a : (i ≢ other) × Wide i u). ⊎_elim
      (λ (b : (i ≡ id) × (together v w ≡ u)). ⊎_elim
      (λ (c : holding q v ≡ Some y). (id, record { view = v; seat = at; held = c }, inl (b.0, inl refl)))
      (λ (c : holding q w ≡ Some y). (other, record { view = w; seat = there; held = c }, inl (b.0, inr refl)))
      (one_of (holding q v) (holding q w) y
      (sym (holding-together q v w) ∙ subst (λ (z : ByPort H). holding q z ≡ Some y) (sym b.1) h)))
      (λ (b : (i ≢ id) × Old i u). (i, record { view = u; seat = b.1; held = h }, inr (b.0, a.0, refl)))
      (at_wide i u a.1))
      (at_new i u e)

  pub join_were : AllWere Old New
  join_were i q u y e h = let k = was i q u y e h in (k.0, k.1)

  pub join_apart : AreApart New
  join_apart i j q u t x y e f h k = let m = was i q u x e h in let n = was j q t y f k in
      one_from id other m.0 n.0 i j (apart m.0 n.0 q m.1.view n.1.view x y m.1.seat n.1.seat m.1.held n.1.held) m.2 n.2
