-- The first of a list that passes a test.
use Rattle.std.proofs.Common.{◌≡◌, ◌⊎◌, inl, inr, Bool, true, false, List, [], ◌∷◌, ◌++◌, map, flat_map, find, Option, Some, None, refl, sym, ap, subst, cond}

-- the list has it
abbrev pub Has : {A : Type 0} → A → List A → Type 0
Has x [] = ⊥
Has x (y ∷ others) = (x ≡ y) ⊎ Has x others

pub has_first : {A : Type 0} (x : A) (one other : List A) → Has x one → Has x (one ++ other)
has_first x [] other has = absurd has
has_first x (y ∷ one) other (inl is) = inl is
has_first x (y ∷ one) other (inr has) = inr (has_first x one other has)

pub has_second : {A : Type 0} (x : A) (one other : List A) → Has x other → Has x (one ++ other)
has_second x [] other has = has
has_second x (y ∷ one) other has = inr (has_second x one other has)

pub has_map : {A B : Type 0} (f : A → B) (x : A) (list : List A) → Has x list → Has (f x) (map f list)
has_map f x [] has = has
has_map f x (y ∷ list) (inl is) = inl (ap f is)
has_map f x (y ∷ list) (inr has) = inr (has_map f x list has)

pub has_flat : {A B : Type 0} (f : A → List B) (x : A) (y : B) (list : List A) → Has x list → Has y (f x)
    → Has y (flat_map f list)
has_flat f x y [] has there = absurd has
has_flat f x y (z ∷ list) (inl is) there =
    has_first y (f z) (flat_map f list) (subst (λ a. Has y (f a)) is there)
has_flat f x y (z ∷ list) (inr has) there = has_second y (f z) (flat_map f list) (has_flat f x y list has there)

-- what is found passes the test; if nothing is found, nothing in the list does
module _ {A : Type 0} (test : A → Bool) where
  abbrev pub Found : List A → Option A → Type 0
  Found list None = (x : A) → Has x list → test x ≡ false
  Found list (Some x) = test x ≡ true

  skipped : (x : A) (others : List A) (found : Option A) → test x ≡ false → Found others found → Found (x ∷ others) found
  skipped x others None hides none = λ y has. elim has [
    | inl is ↦ subst (λ z. test z ≡ false) (sym is) hides
    | inr rest ↦ none y rest
  ]
  skipped x others (Some y) hides is = is

  first_by : (x : A) (others : List A) (found : Option A) (b : Bool) → test x ≡ b → Found others found
      → Found (x ∷ others) (cond b (Some x) found)
  first_by x others found true is rest = is
  first_by x others found false is rest = skipped x others found is rest

  pub first_found : (list : List A) → Found list (find test list)
  first_found [] = λ x has. absurd has
  first_found (x ∷ others) = first_by x others (find test others) (test x) refl (first_found others)
