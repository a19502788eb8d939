-- Texts that are put together part by part.
use Rattle.std.proofs.Common.{◌≡◌, ◌<◌, ◌+◌, ℕ, List, [], ◌∷◌, ◌++◌, length, take, map, get_or, refl, sym, ap, ◌∙◌, append_assoc, append-nil, add-one, add_comm, le_refl, subst, ◌≤◌}
use Rattle.std.proofs.lemmas.List.{take_more, take_all, map-append}
use Rattle.std.proofs.lemmas.List.Concat.{flat_map-append}
use Rattle.std.proofs.lemmas.List.FromFn.{get_or-enumerate_from, length-enumerate_from}
use Rattle.std.specs.List.{enumerate_from, flat_map}
use Rattle.ccan_lab.specs.Report.{each}

-- the parts so far, and one more
pub part_more : (old new start parts part : List ℕ) → old ≡ start ++ parts → new ≡ old ++ part → new ≡ start ++ (parts ++ part)
part_more old new start parts part so_far more = more ∙ ap (λ (t : List ℕ). t ++ part) so_far ∙ append_assoc start parts part

pub each_none : (text : ℕ → List ℕ) → each 0 text ≡ []
unfolding each
each_none text = refl

pub each_more : (text : ℕ → List ℕ) (count : ℕ) → each (count + 1) text ≡ each count text ++ text count
unfolding each
each_more text count = ap (λ n. each n text) (add-one count)

-- none of the numbers yet
pub each_begins : (start : List ℕ) (text : ℕ → List ℕ) → start ≡ start ++ each 0 text
unfolding each
each_begins start text = sym (append-nil start)

-- the texts of the numbers before this one, and its own
pub each_goes_on : (old new start : List ℕ) (text : ℕ → List ℕ) (count : ℕ) → old ≡ start ++ each count text
    → new ≡ old ++ text count → new ≡ start ++ each (count + 1) text
each_goes_on old new start text count so_far more =
    part_more old new start (each count text) (text count) so_far more
    ∙ ap (λ (t : List ℕ). start ++ t) (sym (each_more text count))

-- ---- a list in order

module _ {X : Type 0} (f : X → List ℕ) where
  -- the texts of the items so far, and one more
  pub flat_goes_on : (old new start : List ℕ) (xs : List X) (i : ℕ) (d : X) → i < length xs
      → old ≡ start ++ flat_map f (take i xs) → new ≡ old ++ f (get_or xs i d) → new ≡ start ++ flat_map f (take (i + 1) xs)
  flat_goes_on old new start xs i d within so_far more =
      let one : flat_map f (take (i + 1) xs) ≡ flat_map f (take i xs) ++ f (get_or xs i d) =
      ap (flat_map f) (take_more xs i d within) ∙ flat_map-append f (take i xs) (get_or xs i d ∷ [])
      ∙ ap (λ (t : List ℕ). flat_map f (take i xs) ++ t) (append-nil (f (get_or xs i d))) in
      part_more old new start (flat_map f (take i xs)) (f (get_or xs i d)) so_far more ∙ ap (λ (t : List ℕ). start ++ t) (sym one)

module _ {X Y : Type 0} (f : X → Y) where
  -- the images of the items so far, and one more
  pub map_goes_on : (old new start : List Y) (xs : List X) (i : ℕ) (d : X) → i < length xs
      → old ≡ start ++ map f (take i xs) → new ≡ old ++ f (get_or xs i d) ∷ [] → new ≡ start ++ map f (take (i + 1) xs)
  map_goes_on old new start xs i d within so_far more =
      let one : map f (take (i + 1) xs) ≡ map f (take i xs) ++ f (get_or xs i d) ∷ [] =
      ap (map f) (take_more xs i d within) ∙ map-append f (take i xs) (get_or xs i d ∷ []) in
      more ∙ ap (λ (t : List Y). t ++ f (get_or xs i d) ∷ []) so_far
      ∙ append_assoc start (map f (take i xs)) (f (get_or xs i d) ∷ []) ∙ ap (λ (t : List Y). start ++ t) (sym one)

-- the items of a list with their numbers
pub numbered_length : {X : Type 0} (n : ℕ) (xs : List X) (i : ℕ) → i < length xs → i < length (enumerate_from n xs)
numbered_length n xs i within = subst (λ count. i < count) (sym (length-enumerate_from n xs)) within

pub numbered_at : {X : Type 0} (xs : List X) (i : ℕ) (x : X) → i < length xs → x ≡ get_or xs i x
    → get_or (enumerate_from 1 xs) i (0, x) ≡ (i + 1, x)
numbered_at xs i x within at = get_or-enumerate_from 1 xs i (0, x) within
    ∙ ap (λ (y : _). (1 + i, y)) (sym at) ∙ ap (λ (n : ℕ). (n, x)) (add_comm 1 i)

pub numbered_all : {X : Type 0} (xs : List X) → take (length xs) (enumerate_from 1 xs) ≡ enumerate_from 1 xs
numbered_all xs = take_all (length xs) (enumerate_from 1 xs) (subst (λ count. count ≤ length xs)
    (sym (length-enumerate_from 1 xs)) (le_refl (length xs)))
