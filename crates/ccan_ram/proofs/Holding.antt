-- What there is for each port, after a step changed it. There are three ports and so a few cases, each of which holds by
-- computing.
use Rattle.std.proofs.Common.{◌≡◌, ◌≢◌, ◌⊎◌, sym, refl, ◌∙◌, subst, inl, inr, Option, Some, None}
use Rattle.ccan_ram.specs.declared.port.PortName.{PortName}
use Rattle.ccan_ram.specs.declared.port.PortName.TheVariants.{If1, If2, Bus}
use Rattle.ccan_ram.specs.declared.by_port.ByPort.{ByPort}
use Rattle.ccan_ram.specs.ByPort.{holding, with_held, nothing, only, held_as, each_as, or_held, together}

module _ {H : Type 0} where
  pub held_or_not : (o : Option H) → ((x : H) × (o ≡ Some x)) ⊎ (o ≡ None)
  held_or_not None = inr refl
  held_or_not (Some x) = inl (x, refl)

  pub one_of : (o q : Option H) (y : H) → or_held o q ≡ Some y → (o ≡ Some y) ⊎ (q ≡ Some y)
  one_of None q y e = inr e
  one_of (Some x) q y e = inl e

  pub holding-with_held_same : (p : PortName) (o : Option H) (v : ByPort H) → holding p (with_held p o v) ≡ o
  holding-with_held_same If1 o v = refl
  holding-with_held_same If2 o v = refl
  holding-with_held_same Bus o v = refl

  pub holding-with_held_other : (p q : PortName) (o : Option H) (v : ByPort H) → q ≢ p
      → holding q (with_held p o v) ≡ holding q v
  holding-with_held_other If1 If1 o v n = absurd (n refl)
  holding-with_held_other If1 If2 o v n = refl
  holding-with_held_other If1 Bus o v n = refl
  holding-with_held_other If2 If1 o v n = refl
  holding-with_held_other If2 If2 o v n = absurd (n refl)
  holding-with_held_other If2 Bus o v n = refl
  holding-with_held_other Bus If1 o v n = refl
  holding-with_held_other Bus If2 o v n = refl
  holding-with_held_other Bus Bus o v n = absurd (n refl)

  pub holding-nothing : (p : PortName) (y : H) → holding p nothing ≡ Some y → ⊥
  holding-nothing If1 y e = cc
  holding-nothing If2 y e = cc
  holding-nothing Bus y e = cc

  pub holding-together : (p : PortName) (v w : ByPort H) → holding p (together v w) ≡ or_held (holding p v) (holding p w)
  holding-together If1 v w = refl
  holding-together If2 v w = refl
  holding-together Bus v w = refl

  -- one port alone
  pub with_held-only : (p : PortName) (o q : Option H) → with_held p q (only p o) ≡ only p q
  with_held-only If1 o q = refl
  with_held-only If2 o q = refl
  with_held-only Bus o q = refl

  -- two ports
  pub held_first : (p q : PortName) (x y : H) → holding p (together (only p (Some x)) (only q (Some y))) ≡ Some x
  held_first If1 q x y = refl
  held_first If2 q x y = refl
  held_first Bus q x y = refl

  pub held_with : (p q : PortName) (x y : H) → p ≢ q → holding q (together (only p (Some x)) (only q (Some y))) ≡ Some y
  held_with If1 If1 x y n = absurd (n refl)
  held_with If1 If2 x y n = refl
  held_with If1 Bus x y n = refl
  held_with If2 If1 x y n = refl
  held_with If2 If2 x y n = absurd (n refl)
  held_with If2 Bus x y n = refl
  held_with Bus If1 x y n = refl
  held_with Bus If2 x y n = refl
  held_with Bus Bus x y n = absurd (n refl)

  -- a port with none is another than one with some
  pub not_held : (p q : PortName) (v : ByPort H) (x : H) → holding p v ≡ Some x → holding q v ≡ None → q ≢ p
  not_held p q v x e n same = let t : holding p v ≡ None = subst (λ (z : PortName). holding z v ≡ None) same n in cc

  -- a change of all that there is
  module _ (f : H → H) where
    pub holding-each_as : (p : PortName) (v : ByPort H) → holding p (each_as f v) ≡ held_as f (holding p v)
    holding-each_as If1 v = refl
    holding-each_as If2 v = refl
    holding-each_as Bus v = refl

    pub held_as-some : (o : Option H) (y : H) → held_as f o ≡ Some y → (x : H) × (o ≡ Some x) × (f x ≡ y)
    held_as-some None y e = absurd (cc)
    held_as-some (Some x) y e = (x, refl, cc)

    pub held_before : (p : PortName) (v : ByPort H) (y : H) → holding p (each_as f v) ≡ Some y
        → (x : H) × (holding p v ≡ Some x) × (f x ≡ y)
    held_before p v y e = held_as-some (holding p v) y (sym (holding-each_as p v) ∙ e)

    pub each_as-only : (p : PortName) (o : Option H) → each_as f (only p o) ≡ only p (held_as f o)
    each_as-only If1 o = refl
    each_as-only If2 o = refl
    each_as-only Bus o = refl

    pub split_off : (p q : PortName) (x y : H) → p ≢ q
        → with_held q None (each_as f (together (only p (Some x)) (only q (Some y)))) ≡ only p (Some (f x))
    split_off If1 If1 x y n = absurd (n refl)
    split_off If1 If2 x y n = refl
    split_off If1 Bus x y n = refl
    split_off If2 If1 x y n = refl
    split_off If2 If2 x y n = absurd (n refl)
    split_off If2 Bus x y n = refl
    split_off Bus If1 x y n = refl
    split_off Bus If2 x y n = refl
    split_off Bus Bus x y n = absurd (n refl)
