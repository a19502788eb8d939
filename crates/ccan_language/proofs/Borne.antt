-- The first word that has some signs, node by node.
use Rattle.std.proofs.Common.{ℕ, suc, ◌+◌, ◌-◌, ◌^◌, ◌<◌, ◌≡◌, Bool, true, false, not, cond, ◌&&◌, ◌||◌, nat_eq, nat_lt, min, List, [], ◌∷◌, ◌++◌, Option, None, Some, length, map, position, slice_get, option_map, if◌then◌else◌, refl, sym, ap, subst, ◌∙◌, arith, inl, inr}
use Rattle.std.proofs.lemmas.Bool.{eqb-true, lt-ltb}
use Rattle.std.proofs.lemmas.Bool.Decides.{Decides-eqb}
use Rattle.std.proofs.lemmas.List.Elements.{Contains-push_cases}
use Rattle.std.proofs.lemmas.List.Folds.{Any-from_list_any}
use Rattle.std.proofs.lemmas.Slice.Eq.{slice_eq-Decides}
use Rattle.std.specs.Cmp.Lexicographic.{pointwise}
use Rattle.std.specs.List.{list_any, position_or_len, prefix_len}
use Rattle.indexmap.specs.IndexSet.{insert_key}
use Rattle.ccan_language.specs.contracts.signs.VainPartialEq.TheImpl.{ghosts as vain_is}
use Rattle.ccan_language.specs.declared.letter.Letter.{Letter}
use Rattle.ccan_language.specs.declared.node.Edge.{Edge}
use Rattle.ccan_language.specs.declared.node.Node.{Node}
use Rattle.ccan_language.specs.declared.node.Node.TheVariants.{End, Fork}
use Rattle.ccan_language.specs.declared.signs.Vain.{Vain}
use Rattle.ccan_language.specs.Count.{all_words, in_128_bits}
use Rattle.ccan_language.specs.Signs.{AreVain, first_with, has_sign, has_signs, signs_left}
use Rattle.ccan_language.specs.Words.{AreNormal}
use Rattle.ccan_language.proofs.Counted.{min_is, sum_in_bits}
use Rattle.ccan_language.proofs.Listed.{behind_edge, behind_long, words_end, words_fork}
use Rattle.ccan_language.specs.Equal.{and_is}

-- ---- the place of the first item that passes

-- the same by recursion
abbrev pub place_of : {X : Type 0} → (X → Bool) → List X → Option ℕ
place_of p [] = None
place_of p (x ∷ xs) = cond (p x) (Some 0) (option_map suc (place_of p xs))

pub place_is : {X : Type 0} (p : X → Bool) (xs : List X) → position p xs ≡ place_of p xs
place_is p [] = refl
place_is {X} p (x ∷ xs) = by (p x) refl (place_is p xs)
  where
    by : (b : Bool) → p x ≡ b → position p xs ≡ place_of p xs → position p (x ∷ xs) ≡ place_of p (x ∷ xs)
    by true is on =
        ap (λ (b : Bool). let n = cond (not b) (1 + prefix_len (λ it. not (p it)) xs) 0 in
        cond (nat_lt n (length (x ∷ xs))) (Some n) None) is
        ∙ ap (λ (b : Bool). cond b (Some 0) None) (lt-ltb 0 (suc (length xs)) (omega arith))
        ∙ sym (ap (λ (b : Bool). cond b (Some 0) (option_map suc (place_of p xs))) is)
    by false is on =
        ap (λ (b : Bool). let n = cond (not b) (1 + prefix_len (λ it. not (p it)) xs) 0 in
        cond (nat_lt n (length (x ∷ xs))) (Some n) None) is
        ∙ later (position_or_len p xs) (length xs)
        ∙ ap (λ (o : Option ℕ). option_map suc o) on
        ∙ sym (ap (λ (b : Bool). cond b (Some 0) (option_map suc (place_of p xs))) is)
      where
        later : (n long : ℕ) → cond (nat_lt (1 + n) (suc long)) (Some (1 + n)) None
            ≡ option_map suc (cond (nat_lt n long) (Some n) None)
        later n long = step (nat_lt n long) refl
          where
            step : (b : Bool) → nat_lt n long ≡ b
                → cond (nat_lt (1 + n) (suc long)) (Some (1 + n)) None ≡ option_map suc (cond (nat_lt n long) (Some n) None)
            step true is = grind (arith, is)
            step false is = grind (arith, is)

-- the first of these, or else the first of those behind them
abbrev pub or_behind : Option ℕ → ℕ → Option ℕ → Option ℕ
or_behind (Some n) long more = Some n
or_behind None long more = option_map (λ (n : ℕ). long + n) more

behind_more : (one more : Option ℕ) (long : ℕ) → option_map suc (or_behind one long more) ≡ or_behind (option_map suc one) (suc long) more
behind_more (Some n) more long = refl
behind_more None (Some m) long = let same : suc (long + m) ≡ suc long + m = omega arith in ap (λ (n : ℕ). Some n) same
behind_more None None long = refl

behind_none : (more : Option ℕ) → more ≡ or_behind None 0 more
behind_none (Some m) = let same : m ≡ 0 + m = omega arith in ap (λ (n : ℕ). Some n) same
behind_none None = refl

place_append : {X : Type 0} (p : X → Bool) (xs ys : List X)
    → place_of p (xs ++ ys) ≡ or_behind (place_of p xs) (length xs) (place_of p ys)
place_append p [] ys = behind_none (place_of p ys)
place_append {X} p (x ∷ xs) ys = by (p x) refl (place_append p xs ys)
  where
    by : (b : Bool) → p x ≡ b → place_of p (xs ++ ys) ≡ or_behind (place_of p xs) (length xs) (place_of p ys)
        → cond (p x) (Some 0) (option_map suc (place_of p (xs ++ ys)))
        ≡ or_behind (cond (p x) (Some 0) (option_map suc (place_of p xs))) (suc (length xs)) (place_of p ys)
    by true is on =
        ap (λ (c : Bool). cond c (Some 0) (option_map suc (place_of p (xs ++ ys)))) is
        ∙ sym (ap (λ (c : Bool). or_behind (cond c (Some 0) (option_map suc (place_of p xs))) (suc (length xs)) (place_of p ys)) is)
    by false is on =
        ap (λ (c : Bool). cond c (Some 0) (option_map suc (place_of p (xs ++ ys)))) is
        ∙ ap (λ (o : Option ℕ). option_map suc o) on
        ∙ behind_more (place_of p xs) (place_of p ys) (length xs)
        ∙ sym (ap (λ (c : Bool). or_behind (cond c (Some 0) (option_map suc (place_of p xs))) (suc (length xs)) (place_of p ys)) is)

place_map : {X Y : Type 0} (p : Y → Bool) (f : X → Y) (q : X → Bool) → ((x : X) → p (f x) ≡ q x) → (xs : List X)
    → place_of p (map f xs) ≡ place_of q xs
place_map p f q same [] = refl
place_map p f q same (x ∷ xs) =
    ap (λ (c : Bool). cond c (Some 0) (option_map suc (place_of p (map f xs)))) (same x)
    ∙ ap (λ (o : Option ℕ). cond (q x) (Some 0) (option_map suc o)) (place_map p f q same xs)

pub position_map : {X Y : Type 0} (p : Y → Bool) (f : X → Y) (q : X → Bool) → ((x : X) → p (f x) ≡ q x) → (xs : List X)
    → position p (map f xs) ≡ position q xs
position_map p f q same xs = place_is p (map f xs) ∙ place_map p f q same xs ∙ sym (place_is q xs)

-- ---- signs of a word

module _ (bears : Letter → ℕ → Bool) where
  -- a word that begins with the letter has the signs if the rest has those that the letter doesn't bear
  begun : (signs : List ℕ) (letter : Letter) (later : List Letter)
      → has_signs bears signs (letter ∷ later) ≡ has_signs bears (signs_left bears signs letter) later
  begun [] letter later = refl
  begun (sign ∷ signs) letter later = by (bears letter sign) refl (begun signs letter later)
    where
      by : (b : Bool) → bears letter sign ≡ b
          → has_signs bears signs (letter ∷ later) ≡ has_signs bears (signs_left bears signs letter) later
          → has_signs bears (sign ∷ signs) (letter ∷ later) ≡ has_signs bears (signs_left bears (sign ∷ signs) letter) later
      by true is on =
          ap (λ (c : Bool). (c || has_sign bears later sign) && has_signs bears signs (letter ∷ later)) is
          ∙ on
          ∙ sym (ap (λ (c : Bool). has_signs bears (cond (not c) (sign ∷ signs_left bears signs letter)
          (signs_left bears signs letter)) later) is)
      by false is on =
          ap (λ (c : Bool). (c || has_sign bears later sign) && has_signs bears signs (letter ∷ later)) is
          ∙ ap (λ (c : Bool). has_sign bears later sign && c) on
          ∙ sym (ap (λ (c : Bool). has_signs bears (cond (not c) (sign ∷ signs_left bears signs letter)
          (signs_left bears signs letter)) later) is)

  -- ---- the first word from a node

  module _ (nodes : List Node) (normal : AreNormal nodes) (signs : List ℕ) (index : ℕ) where
    pub first_end : slice_get nodes index ≡ Some End → (length signs ≡ 0 → ⊥)
        → None ≡ option_map in_128_bits (first_with bears signs (all_words nodes index))
    first_end at some = by signs some
        ∙ sym (ap (λ (l : List (List Letter)). option_map in_128_bits (first_with bears signs l)) (words_end nodes normal index at))
      where
        by : (sought : List ℕ) → (length sought ≡ 0 → ⊥) → None ≡ option_map in_128_bits (first_with bears sought ([] ∷ []))
        by [] not = absurd (not refl)
        by (sign ∷ more) not = refl

    pub first_fork : (edge : Edge) → slice_get nodes index ≡ Some (Fork edge)
        → first_with bears signs (all_words nodes index)
        ≡ or_behind (first_with bears (signs_left bears signs edge.letter) (all_words nodes edge.to))
        (length (all_words nodes edge.to)) (first_with bears signs (all_words nodes edge.others))
    unfolding behind_edge
    first_fork edge at =
        let to = all_words nodes edge.to in
        let others = all_words nodes edge.others in
        let left = signs_left bears signs edge.letter in
        ap (λ (l : List (List Letter)). first_with bears signs l) (words_fork nodes normal index edge at)
        ∙ place_is (has_signs bears signs) (behind_edge edge to ++ others)
        ∙ place_append (has_signs bears signs) (behind_edge edge to) others
        ∙ ap (λ (o : Option ℕ). or_behind o (length (behind_edge edge to)) (place_of (has_signs bears signs) others))
        (place_map (has_signs bears signs) (λ (word : List Letter). edge.letter ∷ word) (has_signs bears left)
        (λ later. begun signs edge.letter later) to)
        ∙ ap (λ (n : ℕ). or_behind (place_of (has_signs bears left) to) n (place_of (has_signs bears signs) others))
        (behind_long edge to)
        ∙ ap (λ (o : Option ℕ). or_behind o (length to) (place_of (has_signs bears signs) others))
        (sym (place_is (has_signs bears left) to))
        ∙ ap (λ (o : Option ℕ). or_behind (first_with bears left to) (length to) o)
        (sym (place_is (has_signs bears signs) others))

  -- ---- what is kept

  vain_same : (a b : Vain) → vain_is.eq a b ≡ true → (a.node ≡ b.node) × (a.signs.items ≡ b.signs.items)
  vain_same a b h =
      let both = and_is (nat_eq a.node b.node) (pointwise nat_eq a.signs.items b.signs.items) h in (
        eqb-true a.node b.node both.0,
        (slice_eq-Decides Decides-eqb a.signs.items b.signs.items (pointwise nat_eq a.signs.items b.signs.items) refl).0 both.1,
      )

  module _ (nodes : List Node) (kept : List Vain) (are : AreVain bears nodes kept) (vain : Vain) where
    pub vain_kept : list_any (vain_is.eq vain) kept ≡ true
        → first_with bears vain.signs.items (all_words nodes vain.node) ≡ None
    vain_kept is =
        let found = Any-from_list_any (vain_is.eq vain) kept is in
        let same = vain_same vain found.1 found.4 in
        ap (λ (n : ℕ). first_with bears vain.signs.items (all_words nodes n)) same.0
        ∙ ap (λ (l : List ℕ). first_with bears l (all_words nodes found.1.node)) same.1
        ∙ are found.1 (found.0, found.2, found.3)

    pub vain_more : first_with bears vain.signs.items (all_words nodes vain.node) ≡ None
        → AreVain bears nodes (insert_key vain_is.eq kept vain)
    vain_more none = by (list_any (vain_is.eq vain) kept)
      where
        by : (b : Bool) → AreVain bears nodes (if b then kept else kept ++ vain ∷ [])
        by true = are
        by false = λ one inside.
            elim (Contains-push_cases kept vain one inside) as
            (λ _. first_with bears one.signs.items (all_words nodes one.node) ≡ None) [
              | inl old ↦ are one old
              | inr is ↦ subst (λ (v : Vain). first_with bears v.signs.items (all_words nodes v.node) ≡ None) is none
            ]

-- ---- numbers within 128 bits

-- a number that was found by the edge
pub found_by_edge : (number : ℕ) (long : ℕ) (one more whole : Option ℕ) → Some number ≡ option_map in_128_bits one
    → whole ≡ or_behind one long more → Some number ≡ option_map in_128_bits whole
found_by_edge number long (Some n) more whole is w = is ∙ sym (ap (λ (o : Option ℕ). option_map in_128_bits o) w)
found_by_edge number long None more whole is w = absurd cc

none_of : (one : Option ℕ) → None ≡ option_map in_128_bits one → one ≡ None
none_of None is = refl
none_of (Some n) is = absurd cc

-- one that was found among the others
pub found_beside : (number long before : ℕ) (one more whole : Option ℕ) → None ≡ option_map in_128_bits one
    → Some number ≡ option_map in_128_bits more → before ≡ in_128_bits long → whole ≡ or_behind one long more
    → Some (min (before + number) (2 ^ 128 - 1)) ≡ option_map in_128_bits whole
found_beside number long before (Some n) more whole none is b w = absurd cc
found_beside number long before None None whole none is b w = absurd cc
found_beside number long before None (Some m) whole none is b w =
    let same : number ≡ min m (2 ^ 128 - 1) = grind (arith, is) in
    ap (λ (n : ℕ). Some n) (sum_in_bits (2 ^ 128 - 1) long m before number b same)
    ∙ sym (ap (λ (o : Option ℕ). option_map in_128_bits o) w)

-- none was found
pub found_none : (long : ℕ) (one more whole : Option ℕ) → None ≡ option_map in_128_bits one
    → None ≡ option_map in_128_bits more → whole ≡ or_behind one long more → whole ≡ None
found_none long (Some n) more whole none is w = absurd cc
found_none long None (Some m) whole none is w = absurd cc
found_none long None None whole none is w = w

-- one that 64 bits hold
pub found_small : (number : ℕ) (whole : Option ℕ) → Some number ≡ option_map in_128_bits whole → number < 2 ^ 64 - 1
    → Some number ≡ whole
found_small number None is small = absurd cc
found_small number (Some n) is small =
    let same : number ≡ min n (2 ^ 128 - 1) = grind (arith, is) in
    elim (min_is n (2 ^ 128 - 1)) as (λ _. Some number ≡ Some n) [
      | inl low ↦ ap (λ (m : ℕ). Some m) (same ∙ low.1)
      | inr full ↦ let top : number ≡ 2 ^ 128 - 1 = same ∙ full.1 in absurd (omega (arith, top, small))
    ]

pub found_no : (whole : Option ℕ) → None ≡ option_map in_128_bits whole → None ≡ whole
found_no whole is = sym (none_of whole is)
