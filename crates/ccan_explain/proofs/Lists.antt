-- Lists that are gone through item by item.
use Rattle.std.proofs.Common.{ℕ, zero, suc, ◌≡◌, ◌<◌, ◌+◌, Bool, true, false, List, [], ◌∷◌, ◌++◌, length, take, map, get_or, cond}
use Rattle.std.proofs.Common.{ap, sym, ◌∙◌, arith, append_assoc, append-nil}
use Rattle.std.proofs.lemmas.List.{take_more, map-append}
use Rattle.std.proofs.lemmas.List.Concat.{flat_map-append}
use Rattle.std.proofs.lemmas.List.Elements.{filter-append}
use Rattle.std.specs.List.{enumerate_from, filter, flat_map, range_with_len}

-- the numbers from one on that pass a test, and one number more
range_more : (a n : ℕ) → range_with_len a (suc n) ≡ range_with_len a n ++ (a + n) ∷ []
range_more a zero = let e : a ≡ a + 0 = omega arith in ap (λ (k : ℕ). k ∷ []) e
range_more a (suc n) =
    let e : a + 1 + n ≡ a + suc n = omega arith in
    ap (λ (ks : List ℕ). a ∷ ks) (range_more (a + 1) n ∙ ap (λ (k : ℕ). range_with_len (a + 1) n ++ k ∷ []) e)

filter_more : (p : ℕ → Bool) (a n k : ℕ) → a + n ≡ k
    → filter p (range_with_len a (n + 1)) ≡ filter p (range_with_len a n) ++ cond (p k) (k ∷ []) []
filter_more p a n k is =
    let next : n + 1 ≡ suc n = omega arith in
    ap (λ (m : ℕ). filter p (range_with_len a m)) next ∙ ap (filter p) (range_more a n)
    ∙ filter-append p (range_with_len a n) ((a + n) ∷ [])
    ∙ ap (λ (m : ℕ). filter p (range_with_len a n) ++ cond (p m) (m ∷ []) []) is

module _ {Z : Type 0} where
  mapped : (f : ℕ → Z) (xs : List ℕ) (k : ℕ) (test : Bool)
      → map f (xs ++ cond test (k ∷ []) []) ≡ map f xs ++ cond test (f k ∷ []) []
  mapped f xs k true = map-append f xs (k ∷ [])
  mapped f xs k false = map-append f xs []

  -- the images of those that pass so far, and of one number more
  pub passed_go_on : (f : ℕ → Z) (p : ℕ → Bool) (old new start : List Z) (n : ℕ)
      → old ≡ start ++ map f (filter p (range_with_len 0 n)) → new ≡ old ++ cond (p n) (f n ∷ []) []
      → new ≡ start ++ map f (filter p (range_with_len 0 (n + 1)))
  passed_go_on f p old new start n so_far more =
      let few = filter p (range_with_len 0 n) in
      let e : 0 + n ≡ n = omega arith in
      more ∙ ap (λ (t : List Z). t ++ cond (p n) (f n ∷ []) []) so_far
      ∙ append_assoc start (map f few) (cond (p n) (f n ∷ []) [])
      ∙ ap (λ (t : List Z). start ++ t) (sym (ap (map f) (filter_more p 0 n n e) ∙ mapped f few n (p n)))

  flattened : (g : ℕ → List Z) (xs : List ℕ) (k : ℕ) (test : Bool)
      → flat_map g (xs ++ cond test (k ∷ []) []) ≡ flat_map g xs ++ cond test (g k) []
  flattened g xs k true = flat_map-append g xs (k ∷ []) ∙ ap (λ (t : List Z). flat_map g xs ++ t) (append-nil (g k))
  flattened g xs k false = flat_map-append g xs []

  -- the lists of those that pass so far, and of one number more
  pub lists_go_on : (g : ℕ → List Z) (p : ℕ → Bool) (old new : List Z) (n k : ℕ) → n + 1 ≡ k
      → old ≡ flat_map g (filter p (range_with_len 1 n)) → new ≡ old ++ cond (p k) (g k) []
      → new ≡ flat_map g (filter p (range_with_len 1 (n + 1)))
  lists_go_on g p old new n k is so_far more =
      let few = filter p (range_with_len 1 n) in
      let e : 1 + n ≡ k = omega arith in
      more ∙ ap (λ (t : List Z). t ++ cond (p k) (g k) []) so_far
      ∙ sym (ap (flat_map g) (filter_more p 1 n k e) ∙ flattened g few k (p k))

module _ {X : Type 0} where
  enumerate_more : (k : ℕ) (xs : List X) (i : ℕ) (d : X) → i < length xs
      → enumerate_from k (take (i + 1) xs) ≡ enumerate_from k (take i xs) ++ (k + i, get_or xs i d) ∷ []
  enumerate_more k xs i d within = ap (enumerate_from k) (take_more xs i d within) ∙ placed k xs i (get_or xs i d) within where
    placed : (k : ℕ) (xs : List X) (i : ℕ) (x : X) → i < length xs
        → enumerate_from k (take i xs ++ x ∷ []) ≡ enumerate_from k (take i xs) ++ (k + i, x) ∷ []
    placed k [] i x within = absurd (omega arith)
    placed k (y ∷ ys) zero x within =
        let e : k ≡ k + 0 = omega arith in ap (λ (n : ℕ). (n, x) ∷ []) e
    placed k (y ∷ ys) (suc i) x within =
        let e : k + 1 + i ≡ k + suc i = omega arith in
        ap (λ (t : List (ℕ × X)). (k, y) ∷ t)
        (placed (k + 1) ys i x (omega arith) ∙ ap (λ (n : ℕ). enumerate_from (k + 1) (take i ys) ++ (n, x) ∷ []) e)

module _ {X Z : Type 0} where
  -- the lists of the items so far, each with its place, and of one more
  pub places_go_on : (g : ℕ × X → List Z) (old new : List Z) (xs : List X) (i : ℕ) (d : X) → i < length xs
      → old ≡ flat_map g (enumerate_from 0 (take i xs)) → new ≡ old ++ g (i, get_or xs i d)
      → new ≡ flat_map g (enumerate_from 0 (take (i + 1) xs))
  places_go_on g old new xs i d within so_far more =
      let e : 0 + i ≡ i = omega arith in
      let one = (0 + i, get_or xs i d) ∷ [] in
      more ∙ ap (λ (t : List Z). t ++ g (i, get_or xs i d)) so_far
      ∙ sym (ap (flat_map g) (enumerate_more 0 xs i d within) ∙ flat_map-append g (enumerate_from 0 (take i xs)) one
      ∙ ap (λ (t : List Z). flat_map g (enumerate_from 0 (take i xs)) ++ t)
      (append-nil (g (0 + i, get_or xs i d)) ∙ ap (λ (n : ℕ). g (n, get_or xs i d)) e))
