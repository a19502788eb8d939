-- The order of the packed numbers is that of the bit lists.
use Rattle.std.proofs.Common.{ℕ, zero, suc, ◌≡◌, ◌<◌, ◌+◌, ◌*◌, ◌/◌, ◌%◌, ◌^◌, ◌==◌, Bool, true}
use Rattle.std.proofs.Common.{false, cond, List, [], ◌∷◌, ◌++◌, length, refl, sym, ap, subst, ◌∙◌, arith, zero-add}
use Rattle.std.specs.Prelude.{nat_lt}
use Rattle.std.proofs.Math.Nat.{add_assoc}
use Rattle.std.specs.Int.{bit_at}
use Rattle.std.proofs.lemmas.Bool.Decides.{nat_tests}
use Rattle.std.proofs.lemmas.Nat.{mod-pow-add, pow-add}
use Rattle.std.proofs.lemmas.Nat.Bits.{bit_at-lt}
use Rattle.ccan_object.specs.Bits.{bit, flag}
use Rattle.ccan_accept.specs.declared.frame.Frame.{Frame}
use Rattle.ccan_accept.specs.Frame.{identifier_bits}
use Rattle.ccan_wire.specs.Arbitration.{lowest_bits, arbitration_bits, standard_bits, extended_bits, precedes}
use Rattle.ccan_wire.specs.Packed.{value_of, packed}

-- nothing precedes itself
pub precedes-self : (a : List Bool) → precedes a a ≡ false
precedes-self [] = refl
precedes-self (false ∷ a) = precedes-self a
precedes-self (true ∷ a) = precedes-self a

pow-suc : (n : ℕ) → 2 ^ suc n ≡ 2 ^ n + 2 ^ n
pow-suc n = grind arith

pub value_of-below : (n : ℕ) (bits : List Bool) → value_of n bits < 2 ^ n
unfolding value_of
value_of-below zero bits = omega arith
value_of-below (suc n) [] = let e = pow-suc n in let h = value_of-below n [] in omega arith
value_of-below (suc n) (true ∷ bits) = let e = pow-suc n in let h = value_of-below n bits in omega arith
value_of-below (suc n) (false ∷ bits) = let e = pow-suc n in let h = value_of-below n bits in omega arith

more : (p a b : ℕ) → nat_lt (p + a) (p + b) ≡ nat_lt a b
more p a b = grind (arith, nat_tests)

less : (p a b : ℕ) → a < p → true ≡ nat_lt a (p + b)
less p a b h = grind (arith, nat_tests)

not_less : (p a b : ℕ) → b < p → false ≡ nat_lt (p + a) b
not_less p a b h = grind (arith, nat_tests)

-- a number raised by one so many times
abbrev pub raised : ℕ → ℕ → ℕ
raised m zero = m
raised m (suc n) = suc (raised m n)

raised-is : (m n : ℕ) → raised m n ≡ n + m
raised-is m zero = sym (zero-add m)
raised-is m (suc n) = let h = raised-is m n in omega arith

-- two lists whose first parts are as long as one another
pub joined : (m n : ℕ) (us vs c d : List Bool) → length us ≡ n → length vs ≡ n
    → precedes c d ≡ nat_lt (value_of m c) (value_of m d)
    → precedes (us ++ c) (vs ++ d) ≡ nat_lt (value_of (raised m n) (us ++ c)) (value_of (raised m n) (vs ++ d))
unfolding value_of
joined m zero [] [] c d p q h = h
joined m zero (x ∷ us) vs c d p q h = absurd (omega arith)
joined m zero [] (y ∷ vs) c d p q h = absurd (omega arith)
joined m (suc n) [] vs c d p q h = absurd (omega arith)
joined m (suc n) (x ∷ us) [] c d p q h = absurd (omega arith)
joined m (suc n) (false ∷ us) (false ∷ vs) c d p q h = joined m n us vs c d (omega arith) (omega arith) h
joined m (suc n) (true ∷ us) (true ∷ vs) c d p q h =
    joined m n us vs c d (omega arith) (omega arith) h ∙ sym (more (2 ^ raised m n) _ _)
joined m (suc n) (false ∷ us) (true ∷ vs) c d p q h = less (2 ^ raised m n) _ _ (value_of-below (raised m n) (us ++ c))
joined m (suc n) (true ∷ us) (false ∷ vs) c d p q h = not_less (2 ^ raised m n) _ _ (value_of-below (raised m n) (vs ++ d))

pub length-lowest_bits : (n x : ℕ) → length (lowest_bits n x) ≡ n
unfolding lowest_bits
length-lowest_bits zero x = refl
length-lowest_bits (suc n) x = ap suc (length-lowest_bits n x)

-- what follows the upper identifier: of a standard frame, and of an extended one
abbrev low_standard : Frame → List Bool
low_standard f = f.rtr ∷ false ∷ []

abbrev low_extended : Frame → List Bool
low_extended f = true ∷ true ∷ (lowest_bits 18 f.id ++ f.rtr ∷ [])

ends : (a b : Bool) → precedes (a ∷ []) (b ∷ []) ≡ nat_lt (value_of 1 (a ∷ [])) (value_of 1 (b ∷ []))
unfolding value_of
ends false false = refl
ends false true = refl
ends true false = refl
ends true true = refl

both_standard : (a b : Bool)
    → precedes (a ∷ false ∷ []) (b ∷ false ∷ []) ≡ nat_lt (value_of 21 (a ∷ false ∷ [])) (value_of 21 (b ∷ false ∷ []))
unfolding value_of
both_standard false false = refl
both_standard false true = refl
both_standard true false = refl
both_standard true true = refl

both_extended : (a b : List Bool) → precedes a b ≡ nat_lt (value_of 19 a) (value_of 19 b)
    → precedes (true ∷ true ∷ a) (true ∷ true ∷ b) ≡ nat_lt (value_of 21 (true ∷ true ∷ a)) (value_of 21 (true ∷ true ∷ b))
unfolding value_of
both_extended a b h = h ∙ (sym (more (2 ^ 19) (value_of 19 a) (value_of 19 b)) ∙ sym (more (2 ^ 20) _ _))

standard_first : (a : Bool) (b : List Bool)
    → precedes (a ∷ false ∷ []) (true ∷ true ∷ b) ≡ nat_lt (value_of 21 (a ∷ false ∷ [])) (value_of 21 (true ∷ true ∷ b))
unfolding value_of
standard_first false b = less (2 ^ 20) 0 (2 ^ 19 + value_of 19 b) (omega arith)
standard_first true b = less (2 ^ 19) 0 (value_of 19 b) (omega arith) ∙ sym (more (2 ^ 20) 0 (2 ^ 19 + value_of 19 b))

extended_last : (a : Bool) (b : List Bool)
    → precedes (true ∷ true ∷ b) (a ∷ false ∷ []) ≡ nat_lt (value_of 21 (true ∷ true ∷ b)) (value_of 21 (a ∷ false ∷ []))
unfolding value_of
extended_last false b = not_less (2 ^ 20) (2 ^ 19 + value_of 19 b) 0 (omega arith)
extended_last true b = not_less (2 ^ 19) (value_of 19 b) 0 (omega arith) ∙ sym (more (2 ^ 20) (2 ^ 19 + value_of 19 b) 0)

in_order : (x y : Bool) (f g : Frame) → f.xtd ≡ x → g.xtd ≡ y
    → precedes (cond x (extended_bits f) (standard_bits f)) (cond y (extended_bits g) (standard_bits g))
    ≡ nat_lt (value_of 32 (cond x (extended_bits f) (standard_bits f))) (value_of 32 (cond y (extended_bits g) (standard_bits g)))
in_order true true f g p q =
    joined 21 11 (lowest_bits 11 _) (lowest_bits 11 _) (low_extended f) (low_extended g) (length-lowest_bits 11 _)
    (length-lowest_bits 11 _)
    (both_extended _ _ (joined 1 18 (lowest_bits 18 _) (lowest_bits 18 _) (f.rtr ∷ []) (g.rtr ∷ []) (length-lowest_bits 18 _)
    (length-lowest_bits 18 _) (ends f.rtr g.rtr)))
in_order true false f g p q =
    joined 21 11 (lowest_bits 11 _) (lowest_bits 11 _) (low_extended f) (low_standard g) (length-lowest_bits 11 _)
    (length-lowest_bits 11 _) (extended_last g.rtr _)
in_order false true f g p q =
    joined 21 11 (lowest_bits 11 _) (lowest_bits 11 _) (low_standard f) (low_extended g) (length-lowest_bits 11 _)
    (length-lowest_bits 11 _) (standard_first f.rtr _)
in_order false false f g p q =
    joined 21 11 (lowest_bits 11 _) (lowest_bits 11 _) (low_standard f) (low_standard g) (length-lowest_bits 11 _)
    (length-lowest_bits 11 _) (both_standard f.rtr g.rtr)

-- the order of the lists is that of the numbers
pub packed-order : (f g : Frame) → precedes (arbitration_bits f) (arbitration_bits g) ≡ nat_lt (packed f) (packed g)
unfolding packed arbitration_bits
packed-order f g = in_order f.xtd g.xtd f g refl refl

-- ---- the number of a frame

bits_more : (p q x t : ℕ) (k : ℕ) → k ≡ p * q → (a : ℕ) → a < 2 → cond (a == 1) k 0 + (x * q + t) ≡ (a * p + x) * q + t
bits_more p q x t k e zero h = omega arith
bits_more p q x t k e (suc zero) h = let d : (1 * p + x) * q ≡ p * q + x * q = grind arith in omega arith
bits_more p q x t k e (suc (suc a)) h = absurd (omega arith)

none : (p x v : ℕ) → x ≡ 0 → x * p + v ≡ v
none p x v e = rw e (omega arith)

by_bit : (n : ℕ) (b : Bool) (bits : List Bool) → value_of (suc n) (b ∷ bits) ≡ cond b (2 ^ n) 0 + value_of n bits
unfolding value_of
by_bit n true bits = refl
by_bit n false bits = omega arith

pub value_of-lowest_bits : (m n x : ℕ) (c : List Bool)
    → value_of (raised m n) (lowest_bits n x ++ c) ≡ (x % 2 ^ n) * 2 ^ m + value_of m c
unfolding lowest_bits
value_of-lowest_bits m zero x c = sym (none (2 ^ m) (x % 2 ^ 0) (value_of m c) (omega arith))
value_of-lowest_bits m (suc n) x c =
    let split : x % 2 ^ (1 + n) ≡ (x / 2 ^ n % 2 ^ 1) * 2 ^ n + x % 2 ^ n = mod-pow-add x 1 n in
    let one : 1 + n ≡ suc n = omega arith in
    let split' : x % 2 ^ suc n ≡ bit_at x n * 2 ^ n + x % 2 ^ n =
    subst (λ k. x % 2 ^ k ≡ bit_at x n * 2 ^ n + x % 2 ^ n) one split in
    let power : 2 ^ raised m n ≡ 2 ^ n * 2 ^ m = ap (λ k. 2 ^ k) (raised-is m n) ∙ pow-add 2 n m in
    by_bit (raised m n) (bit x n) (lowest_bits n x ++ c)
    ∙ (ap (λ v. cond (bit x n) (2 ^ raised m n) 0 + v) (value_of-lowest_bits m n x c)
    ∙ (bits_more (2 ^ n) (2 ^ m) (x % 2 ^ n) (value_of m c) (2 ^ raised m n) power (bit_at x n) (bit_at-lt x n)
    ∙ ap (λ v. v * 2 ^ m + value_of m c) (sym split')))

last_bit : (b : Bool) → value_of 1 (b ∷ []) ≡ flag b
unfolding value_of
last_bit false = refl
last_bit true = refl

low_bits : (b : Bool) → value_of 21 (b ∷ false ∷ []) ≡ flag b * 1048576
unfolding value_of
low_bits false = refl
low_bits true = refl

high_bits : (bits : List Bool) → value_of 21 (true ∷ true ∷ bits) ≡ 1572864 + value_of 19 bits
unfolding value_of
high_bits bits = sym (add_assoc 1048576 524288 (value_of 19 bits))

by_width : (x : Bool) (f : Frame) → f.xtd ≡ x → packed f ≡ value_of 32 (cond x (extended_bits f) (standard_bits f))
unfolding packed arbitration_bits
by_width x f is = rw is refl

pub packed_standard : (f : Frame) → f.xtd ≡ false → f.id < 2048 → packed f ≡ f.id * 2097152 + flag f.rtr * 1048576
packed_standard f is within =
    let small : f.id % 2048 ≡ f.id = omega arith in
    by_width false f is ∙ (value_of-lowest_bits 21 11 f.id (low_standard f)
    ∙ (rw small (ap (λ v. f.id * 2097152 + v) (low_bits f.rtr))))

pub packed_extended : (f : Frame) → f.xtd ≡ true → f.id < 536870912
    → packed f ≡ (f.id / 262144) * 2097152 + (1572864 + ((f.id % 262144) * 2 + flag f.rtr))
packed_extended f is within =
    let small : f.id / 262144 % 2048 ≡ f.id / 262144 = omega arith in
    let low : value_of 19 (lowest_bits 18 f.id ++ f.rtr ∷ []) ≡ (f.id % 262144) * 2 + flag f.rtr =
    value_of-lowest_bits 1 18 f.id (f.rtr ∷ []) ∙ ap (λ v. (f.id % 262144) * 2 + v) (last_bit f.rtr) in
    by_width true f is
    ∙ (value_of-lowest_bits 21 11 (f.id / 262144) (low_extended f)
    ∙ (rw small (ap (λ v. (f.id / 262144) * 2097152 + v) (high_bits _ ∙ ap (λ v. 1572864 + v) low))))

pub number_standard : (f : Frame) (id n : ℕ) → id ≡ f.id → n ≡ flag f.rtr → f.xtd ≡ false → f.id < 2 ^ identifier_bits f.xtd
    → id * 2097152 + n * 1048576 ≡ packed f
number_standard f id n a b is within = rw (a, b) (sym (packed_standard f is (rw is at within)))

pub number_extended : (f : Frame) (id n : ℕ) → id ≡ f.id → n ≡ flag f.rtr → f.xtd ≡ true → f.id < 2 ^ identifier_bits f.xtd
    → (id / 262144) * 2097152 + (1572864 + ((id % 262144) * 2 + n)) ≡ packed f
number_extended f id n a b is within = rw (a, b) (sym (packed_extended f is (rw is at within)))
