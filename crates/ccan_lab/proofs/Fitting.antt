-- What is left of a line when bytes are taken off its front, one at a time.
use Rattle.std.proofs.Common.{ℕ, zero, suc, ◌<◌, ◌≤◌, ◌≡◌, ◌+◌, ◌==◌, ◌&&◌, ◌||◌, ◌-◌, take, Bool, true, false, true≢false, List, [], ◌∷◌, length, drop, refl, sym, ap, ◌∙◌, arith, if◌then◌else◌}
use Rattle.ccan_lab.specs.Rows.{fits, has_first, some_rest, star}

pub some_now : (passes : List ℕ → Bool) (xs : List ℕ) → passes xs ≡ true → some_rest passes xs ≡ true
unfolding some_rest
some_now passes [] is = is
some_now passes (x ∷ xs) is = ap (λ (b : Bool). b || some_rest passes xs) is

pub some_later : (passes : List ℕ → Bool) (xs : List ℕ) (k : ℕ) → k < length xs → passes (drop k xs) ≡ false
    → some_rest passes (drop k xs) ≡ some_rest passes (drop (suc k) xs)
unfolding some_rest
some_later passes [] k within not = absurd (omega (arith, within))
some_later passes (x ∷ xs) zero within not = ap (λ (b : Bool). b || some_rest passes xs) not
some_later passes (x ∷ xs) (suc k) within not = some_later passes xs k (omega (arith, within)) not

pub some_last : (passes : List ℕ → Bool) → some_rest passes [] ≡ passes []
unfolding some_rest
some_last passes = refl

pub drop_past : (xs : List ℕ) (k : ℕ) → length xs ≤ k → drop k xs ≡ []
drop_past [] zero past = refl
drop_past [] (suc k) past = refl
drop_past (x ∷ xs) zero past = absurd (omega (arith, past))
drop_past (x ∷ xs) (suc k) past = drop_past xs k (omega (arith, past))

abbrev nothing : List ℕ
nothing = []

take_none : (n : ℕ) → take n nothing ≡ nothing
take_none zero = refl
take_none (suc n) = refl

take_long : (xs : List ℕ) (n : ℕ) → length xs ≤ n → take n xs ≡ xs
take_long [] n long = take_none n
take_long (x ∷ xs) zero long = absurd (omega (arith, long))
take_long (x ∷ xs) (suc n) long = ap (λ (l : List ℕ). x ∷ l) (take_long xs n (omega (arith, long)))

drop_long : (xs : List ℕ) (k : ℕ) → k ≤ length xs → length (drop k xs) + k ≡ length xs
drop_long xs zero within = omega arith
drop_long [] (suc k) within = absurd (omega (arith, within))
drop_long (x ∷ xs) (suc k) within = let rest = drop_long xs k (omega (arith, within)) in omega (arith, rest)

pub take_rest : (xs : List ℕ) (k : ℕ) → k < length xs → take (length xs - k) (drop k xs) ≡ drop k xs
take_rest xs k within =
    let long = drop_long xs k (omega (arith, within)) in
    take_long (drop k xs) (length xs - k) (omega (arith, long))

-- ---- how a line fits, by the first byte of a beginning

pub fits_none : (begin line : List ℕ) → length begin ≡ 0 → fits begin line ≡ true
unfolding fits
fits_none [] line none = refl
fits_none (x ∷ begin) line none = absurd (omega (arith, none))

module _ (begin later : List ℕ) (wanted : ℕ) (is : begin ≡ wanted ∷ later) where
  pub fits_star : (line : List ℕ) → (wanted == star) ≡ true → fits begin line ≡ some_rest (fits later) line
  unfolding fits
  fits_star line it_is =
      ap (λ (b : List ℕ). fits b line) is
      ∙ ap (λ (b : Bool). if b then some_rest (fits later) line else has_first wanted (fits later) line) it_is

  pub fits_first : (line rest : List ℕ) (byte : ℕ) → (wanted == star) ≡ false → line ≡ byte ∷ rest
      → fits begin line ≡ (wanted == byte && fits later rest)
  unfolding fits
  fits_first line rest byte not line_is =
      ap (λ (b : List ℕ). fits b line) is
      ∙ ap (λ (b : Bool). if b then some_rest (fits later) line else has_first wanted (fits later) line) not
      ∙ ap (has_first wanted (fits later)) line_is

  pub fits_end : (line : List ℕ) → (wanted == star) ≡ false → length line ≡ 0 → fits begin line ≡ false
  unfolding fits
  fits_end [] not none =
      ap (λ (b : List ℕ). fits b []) is
      ∙ ap (λ (b : Bool). if b then some_rest (fits later) [] else false) not
  fits_end (x ∷ line) not none = absurd (omega (arith, none))

-- ---- the first place at which a beginning can fit

-- no rest passes
some_none : (passes : List ℕ → Bool) (xs : List ℕ) → ((k : ℕ) → passes (drop k xs) ≡ false) → some_rest passes xs ≡ false
unfolding some_rest
some_none passes [] none = none 0
some_none passes (x ∷ xs) none =
    ap (λ (b : Bool). b || some_rest passes xs) (none 0) ∙ some_none passes xs (λ k. none (suc k))

-- a rest that passes if any of its own rests does stands for all of them
pub some_first : (passes : List ℕ → Bool) (xs : List ℕ) → ((k : ℕ) → passes (drop k xs) ≡ true → passes xs ≡ true)
    → some_rest passes xs ≡ passes xs
some_first passes xs earliest = by (passes xs) refl
  where
    by : (b : Bool) → passes xs ≡ b → some_rest passes xs ≡ passes xs
    by true is = some_now passes xs is ∙ sym is
    by false is = some_none passes xs (λ k. not_later k (passes (drop k xs)) refl) ∙ sym is
      where
        not_later : (k : ℕ) (c : Bool) → passes (drop k xs) ≡ c → passes (drop k xs) ≡ false
        not_later k true so = absurd (true≢false (sym (earliest k so) ∙ is))
        not_later k false so = so

-- a rest passes if one of its rests does
pub some_drop : (passes : List ℕ → Bool) (xs : List ℕ) (k : ℕ) → some_rest passes (drop k xs) ≡ true → some_rest passes xs ≡ true
unfolding some_rest
some_drop passes xs zero is = is
some_drop passes [] (suc k) is = is
some_drop passes (x ∷ xs) (suc k) is = or_later (passes (x ∷ xs)) (some_rest passes xs) (some_drop passes xs k is)
  where
    or_later : (a b : Bool) → b ≡ true → (a || b) ≡ true
    or_later true b it_is = refl
    or_later false b it_is = it_is

pub and_right : (a b : Bool) → (a && b) ≡ true → b ≡ true
and_right true b both = both
and_right false b both = absurd (true≢false (sym both))

module _ (begin later : List ℕ) (wanted : ℕ) (is : begin ≡ wanted ∷ later) where
  -- behind a star: what is left of a rest is left of the line too
  pub earliest_star : (line : List ℕ) → (wanted == star) ≡ true
      → (k : ℕ) → fits begin (drop k line) ≡ true → fits begin line ≡ true
  earliest_star line it_is k fits_it =
      fits_star begin later wanted is line it_is
      ∙ some_drop (fits later) line k (sym (fits_star begin later wanted is (drop k line) it_is) ∙ fits_it)

  -- what fits has the byte first
  rest_fits : (k : ℕ) (line : List ℕ) → (wanted == star) ≡ false → fits begin (drop k line) ≡ true
      → fits later (drop (suc k) line) ≡ true
  rest_fits k [] not fits_it =
      absurd (true≢false (sym fits_it ∙ ap (fits begin) (drop_past [] k (omega arith))
      ∙ fits_end begin later wanted is [] not refl))
  rest_fits zero (byte ∷ rest) not fits_it =
      and_right (wanted == byte) (fits later rest) (sym (fits_first begin later wanted is (byte ∷ rest) rest byte not refl)
      ∙ fits_it)
  rest_fits (suc k) (byte ∷ rest) not fits_it = rest_fits k rest not fits_it

  -- the same byte first: the line fits if what is left of it does
  pub earliest_byte : (line rest : List ℕ) (byte : ℕ) → (wanted == star) ≡ false → line ≡ byte ∷ rest → (wanted == byte) ≡ true
      → ((k : ℕ) → fits later (drop k rest) ≡ true → fits later rest ≡ true)
      → (k : ℕ) → fits begin (drop k line) ≡ true → fits begin line ≡ true
  earliest_byte line rest byte not line_is same earliest k fits_it =
      fits_first begin later wanted is line rest byte not line_is
      ∙ ap (λ (b : Bool). b && fits later rest) same
      ∙ by k (sym (ap (λ (xs : List ℕ). fits begin (drop k xs)) line_is) ∙ fits_it)
    where
      by : (k : ℕ) → fits begin (drop k (byte ∷ rest)) ≡ true → fits later rest ≡ true
      by k fits_it = earliest k (rest_fits k (byte ∷ rest) not fits_it)
