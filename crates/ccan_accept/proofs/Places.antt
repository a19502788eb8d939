-- Places of an identifier, and words that stand for sets of places.
use Rattle.std.proofs.Common.{ℕ, ◌≡◌, ◌≤◌, ◌<◌, ◌+◌, ◌-◌, ◌*◌, ◌%◌, ◌^◌, ◌==◌, Bool, true, false, ◌&&◌, ◌||◌, min, zero, suc, nat_le, refl, sym, ap, ◌∙◌, arith, inl, inr, length, get_or, zero-add, add-zero, if◌then◌else◌}
use Rattle.std.specs.Int.{bit_at}
use Rattle.std.specs.Int.RustNames.{bit_and, bit_xor}
use Rattle.std.specs.List.{list_all, range_with_len}
use Rattle.std.proofs.lemmas.List.Sums.{AllPass-from_list_all, list_all-from_AllPass}
use Rattle.std.proofs.lemmas.List.FromFn.{get_or-range_with_len, length-range_with_len}
use Rattle.std.proofs.lemmas.Nat.Bits.{bit_at-lt, bit_at-zero, bit_at_and, bit_at_xor, bit_at_above, bit_at_ones, bit_at_mask_inside, bit_at_mask_below, bit_at_cat_high, same_from_bits, same_from_bits_below}
use Rattle.std.proofs.lemmas.Bool.{or_right}
use Rattle.std.proofs.lemmas.Bool.Decides.{nat_tests, leb_tells}
use Rattle.ccan_object.specs.Bits.{bit, part, at}
use Rattle.ccan_accept.specs.Frame.{identifier_bits}

-- ---- a list of places
-- what all places below a number pass, each of them does
pub each_below : (test : ℕ → Bool) (n : ℕ) → list_all test (range_with_len 0 n) ≡ true → (place : ℕ) → place < n
    → test place ≡ true
each_below test n all place low =
    let inside : place < length (range_with_len 0 n) = rw (length-range_with_len 0 n) low in
    let passes : test (get_or (range_with_len 0 n) place 0) ≡ true =
    AllPass-from_list_all test (range_with_len 0 n) all place 0 inside in
    let is : get_or (range_with_len 0 n) place 0 ≡ place = get_or-range_with_len 0 n place 0 low ∙ zero-add place in
    ap test (sym is) ∙ passes

-- and what each of them passes, all do
pub all_below : (test : ℕ → Bool) (n : ℕ) → ((place : ℕ) → place < n → test place ≡ true)
    → list_all test (range_with_len 0 n) ≡ true
all_below test n each =
    list_all-from_AllPass test (range_with_len 0 n)
    (λ place d inside.
    let low : place < n = rw (length-range_with_len 0 n) at inside in
    let is : get_or (range_with_len 0 n) place d ≡ place = get_or-range_with_len 0 n place d low ∙ zero-add place in
    ap test is ∙ each place low)

-- ---- a word for a set of places
both : (a b : ℕ) → a < 2 → b < 2 → (min a b == 1) ≡ (a == 1 && b == 1)
both zero b p q = grind (arith, nat_tests)
both (suc zero) zero p q = grind (arith, nat_tests)
both (suc zero) (suc zero) p q = grind (arith, nat_tests)
both (suc zero) (suc (suc b)) p q = absurd (omega arith)
both (suc (suc a)) b p q = absurd (omega arith)

-- a place is in both words
pub bit-and : (a b place : ℕ) → bit (bit_and a b) place ≡ (bit a place && bit b place)
bit-and a b place =
    ap (λ n. n == 1) (bit_at_and a b place) ∙ both (bit_at a place) (bit_at b place) (bit_at-lt a place) (bit_at-lt b place)

-- all places are in the word of an extended identifier
pub bit-extended : (place : ℕ) → place < 29 → bit 536870911 place ≡ true
bit-extended place low = ap (λ n. n == 1) (bit_at_ones 29 place low)

or_none : (b : Bool) → b ≡ (b || false)
or_none true = refl
or_none false = refl

-- places 28 to 18 are in the word of a standard one
pub bit-standard : (place : ℕ) → place < 29 → bit 536608768 place ≡ nat_le 18 place
bit-standard place low =
    elim (leb_tells 18 place) [
      | inl h ↦ ap (λ n. n == 1) (bit_at_mask_inside 18 29 place h.1 low) ∙ sym h.0
      | inr h ↦ ap (λ n. n == 1) (bit_at_mask_below 18 29 place h.1) ∙ sym h.0
    ]

-- which places an identifier has
pub extended_has : (place : ℕ) → place < 29 → bit 536870911 place ≡ (nat_le 18 place || true)
extended_has place low = bit-extended place low ∙ sym (or_right (nat_le 18 place) true refl)

pub standard_has : (place : ℕ) → place < 29 → bit 536608768 place ≡ (nat_le 18 place || false)
standard_has place low = bit-standard place low ∙ or_none (nat_le 18 place)

-- ---- two words that agree in a set of places
unequal : (a b c : ℕ) → c < 2 → (c == 1 ≡ true → a ≡ b) → min ((a + b) % 2) c ≡ 0
unequal a b zero low same = omega arith
unequal a b (suc zero) low same = let e : a ≡ b = same refl in omega arith
unequal a b (suc (suc c)) low same = absurd (omega arith)

equal : (a b c : ℕ) → a < 2 → b < 2 → min ((a + b) % 2) c ≡ 0 → (c == 1) ≡ true → a ≡ b
equal a b zero p q none on = cc
equal a b (suc zero) p q none on = omega arith
equal a b (suc (suc c)) p q none on = grind (arith, nat_tests)

module _ (a b c : ℕ) (within : c < 2 ^ 29) where
  differs_at : (place : ℕ) → bit_at (bit_and (bit_xor a b) c) place ≡ min ((bit_at a place + bit_at b place) % 2) (bit_at c place)
  differs_at place = bit_at_and (bit_xor a b) c place ∙ ap (λ n. min n (bit_at c place)) (bit_at_xor a b place)

  -- no place differs, so the word of those that do is 0
  pub none_differs : ((place : ℕ) → place < 29 → bit c place ≡ true → bit_at a place ≡ bit_at b place)
      → bit_and (bit_xor a b) c ≡ 0
  none_differs same =
      same_from_bits _ 0 (λ place.
      differs_at place
      ∙ elim (leb_tells 29 place) [
        | inl h ↦ (let above : bit_at c place ≡ 0 = bit_at_above c 29 place within h.1 in omega arith)
        | inr h ↦ unequal (bit_at a place) (bit_at b place) (bit_at c place) (bit_at-lt c place) (same place h.1)
      ]
      ∙ sym (bit_at-zero place))

  -- that word is 0, so no place differs
  pub all_agree : bit_and (bit_xor a b) c ≡ 0 → (place : ℕ) → bit c place ≡ true → bit_at a place ≡ bit_at b place
  all_agree none place on =
      equal (bit_at a place) (bit_at b place) (bit_at c place) (bit_at-lt a place) (bit_at-lt b place)
      (sym (differs_at place) ∙ ap (λ n. bit_at n place) none ∙ bit_at-zero place) on

-- ---- an identifier and its number
high_from : (place : ℕ) → (nat_le 18 place || false) ≡ true → 18 ≤ place
high_from place has = grind (arith, nat_tests)

-- a bit of a number that stands 18 places up
raised : (n place : ℕ) → 18 ≤ place → bit_at (at 18 n) place ≡ bit_at n (place - 18)
raised n place high = ap (λ m. bit_at m place) (sym (add-zero (n * 262144))) ∙ bit_at_cat_high n 18 0 place (omega arith) high

-- a bit of an identifier's upper part
upper : (n place : ℕ) → n < 2 ^ 29 → 18 ≤ place → bit_at n place ≡ bit_at (part n 18 11) (place - 18)
upper n place fits high =
    let whole : n ≡ part n 18 11 * 262144 + n % 262144 = omega arith in
    ap (λ m. bit_at m place) whole ∙ bit_at_cat_high (part n 18 11) 18 (n % 262144) place (omega arith) high

-- identifiers that agree in each place that they have are the same number
pub same_number : (xtd : Bool) (object frame : ℕ) → object < 2 ^ 29 → frame < 2 ^ identifier_bits xtd
    → ((place : ℕ) → place < 29 → (nat_le 18 place || xtd) ≡ true
    → bit_at object place ≡ bit_at (if xtd then frame else at 18 frame) place)
    → frame ≡ (if xtd then object else part object 18 11)
same_number true object frame fits small same =
    same_from_bits_below 29 frame object small fits (λ place low. sym (same place low (or_right (nat_le 18 place) true refl)))
same_number false object frame fits small same =
    same_from_bits_below 11 frame (part object 18 11) small (omega arith) (λ place low.
    let high : 18 ≤ place + 18 = omega arith in
    let has : (nat_le 18 (place + 18) || false) ≡ true = grind (arith, nat_tests) in
    let agree : bit_at object (place + 18) ≡ bit_at (at 18 frame) (place + 18) = same (place + 18) (omega arith) has in
    let back : place + 18 - 18 ≡ place = omega arith in
    ap (λ n. bit_at frame n) (sym back)
    ∙ sym (raised frame (place + 18) high)
    ∙ sym agree
    ∙ upper object (place + 18) fits high
    ∙ ap (λ n. bit_at (part object 18 11) n) back)

-- the same number agrees in each place that it has
pub same_places : (xtd : Bool) (object frame : ℕ) → object < 2 ^ 29 → frame ≡ (if xtd then object else part object 18 11)
    → (place : ℕ) → place < 29 → (nat_le 18 place || xtd) ≡ true
    → bit_at object place ≡ bit_at (if xtd then frame else at 18 frame) place
same_places true object frame fits is place low has = ap (λ n. bit_at n place) (sym is)
same_places false object frame fits is place low has =
    let high : 18 ≤ place = high_from place has in
    upper object place fits high ∙ ap (λ n. bit_at n (place - 18)) (sym is) ∙ sym (raised frame place high)
