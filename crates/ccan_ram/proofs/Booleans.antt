-- Tests that hold or fail, and what is chosen by them.
use Rattle.std.proofs.Common.{◌≡◌, ◌&&◌, ◌⊎◌, Bool, true, false, cond, sym, refl, ap, inl, inr, true≢false}

pub when : (b : Bool) → (b ≡ true) ⊎ (b ≡ false)
when true = inl refl
when false = inr refl

pub both_hold : (a b : Bool) → (a && b) ≡ true → (a ≡ true) × (b ≡ true)
both_hold true b e = (refl, e)
both_hold false b e = (e, absurd (true≢false (sym e)))

pub second_fails : (a b : Bool) → b ≡ false → (a && b) ≡ false
second_fails true b e = e
second_fails false b e = refl

pub both_true : (a b : Bool) → a ≡ true → b ≡ true → (a && b) ≡ true
both_true true b e f = f
both_true false b e f = e

pub chosen : {A : Type 0} (b : Bool) (x y : A) → b ≡ true → cond b x y ≡ x
chosen b x y e = ap (λ (c : Bool). cond c x y) e

pub passed : {A : Type 0} (b : Bool) (x y : A) → b ≡ false → cond b x y ≡ y
passed b x y e = ap (λ (c : Bool). cond c x y) e
