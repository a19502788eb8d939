-- The shift register holds the remainder of the division by the generator polynomial.
use Rattle.std.proofs.Common.{◌≡◌, ◌+◌, ◌*◌, ◌/◌, ◌%◌, ◌^◌, ◌<◌, ◌≤◌, ◌==◌, ℕ, zero, suc, Bool, true, false, cond, List, [], ◌∷◌, ◌++◌, length, replicate, refl, sym, ap, subst, ◌∙◌, arith}
use Rattle.std.specs.Prelude.{bit_xor}
use Rattle.std.specs.Int.{bit_at}
use Rattle.std.proofs.lemmas.Nat.Bits.{bit_at_xor, bit_at-suc, bit_at-lt, bit_at_cat_low}
use mathlib.Core.Bool.{xor}
use Rattle.ccan_object.specs.Bits.{bit}
use Rattle.ccan_time.specs.declared.transmitter.Transmitter.{Transmitter}
use Rattle.ccan_time.specs.Bits.{lowest_bits}
use Rattle.ccan_time.specs.Crc.{generator, plus, divided, crc}
use Rattle.ccan_time.specs.Transmitter.{register_with, transmitter_with, transmitter_after}

-- ---- sums modulo 2

xor_false : (b : Bool) → xor b false ≡ b
unfolding xor
xor_false true = refl
xor_false false = refl

false_xor : (b : Bool) → xor false b ≡ b
unfolding xor
false_xor true = refl
false_xor false = refl

xor_assoc : (a b c : Bool) → xor (xor a b) c ≡ xor a (xor b c)
unfolding xor
xor_assoc true true true = refl
xor_assoc true true false = refl
xor_assoc true false true = refl
xor_assoc true false false = refl
xor_assoc false true true = refl
xor_assoc false true false = refl
xor_assoc false false true = refl
xor_assoc false false false = refl

plus_none : (xs : List Bool) → plus xs [] ≡ xs
unfolding plus
plus_none [] = refl
plus_none (x ∷ xs) = refl

plus_false : (xs t : List Bool) → plus xs (t ++ false ∷ []) ≡ plus xs t
unfolding plus
plus_false [] t = refl
plus_false (x ∷ xs) [] = λ i. xor_false x i ∷ plus_none xs i
plus_false (x ∷ xs) (y ∷ t) = λ i. xor x y ∷ plus_false xs t i

plus_assoc : (xs t g : List Bool) → length g ≤ length t → plus (plus xs t) g ≡ plus xs (plus t g)
unfolding plus
plus_assoc [] t g few = refl
plus_assoc (x ∷ xs) [] [] few = refl
plus_assoc (x ∷ xs) [] (z ∷ g) few = absurd (omega arith)
plus_assoc (x ∷ xs) (y ∷ t) [] few = refl
plus_assoc (x ∷ xs) (y ∷ t) (z ∷ g) few =
    let less : length g ≤ length t = omega arith in
    λ i. xor_assoc x y z i ∷ plus_assoc xs t g less i

zeros_plus : (t : List Bool) → plus (replicate (length t) false) t ≡ t
unfolding plus
zeros_plus [] = refl
zeros_plus (y ∷ t) = λ i. false_xor y i ∷ zeros_plus t i

plus_zeros : (xs : List Bool) (k : ℕ) → plus xs (replicate k false) ≡ xs
unfolding plus
plus_zeros [] k = refl
plus_zeros (x ∷ xs) zero = refl
plus_zeros (x ∷ xs) (suc k) = λ i. xor_false x i ∷ plus_zeros xs k i

-- ---- the bits of a number

pub length_lowest : (n number : ℕ) → length (lowest_bits n number) ≡ n
unfolding lowest_bits
length_lowest zero number = refl
length_lowest (suc n) number = ap suc (length_lowest n number)

same_bits : (n a b : ℕ) → ((i : ℕ) → i < n → bit_at a i ≡ bit_at b i) → lowest_bits n a ≡ lowest_bits n b
unfolding lowest_bits
same_bits zero a b same = refl
same_bits (suc n) a b same =
    let first = ap (λ m. m == 1) (same n (omega arith)) in
    λ i. first i ∷ same_bits n a b (λ k low. same k (omega arith)) i

bit_doubled : (r n : ℕ) → bit (r * 2) (suc n) ≡ bit r n
bit_doubled r n =
    let half : r * 2 / 2 ≡ r = omega arith in
    ap (λ m. m == 1) (bit_at-suc (r * 2) n ∙ ap (λ m. bit_at m n) half)

lowest_doubled : (n r : ℕ) → lowest_bits (suc n) (r * 2) ≡ lowest_bits n r ++ false ∷ []
unfolding lowest_bits
lowest_doubled zero r = (let even : r * 2 / 1 % 2 ≡ 0 = omega arith in λ i. (even i == 1) ∷ [])
lowest_doubled (suc n) r = λ i. bit_doubled r n i ∷ lowest_doubled n r i

-- a register that is shifted
shifted : (r : ℕ) → lowest_bits 15 (r * 2 % 2 ^ 15) ≡ lowest_bits 14 r ++ false ∷ []
shifted r =
    let whole : r * 2 / 32768 * 32768 + r * 2 % 32768 ≡ r * 2 = omega arith in
    same_bits 15 (r * 2 % 2 ^ 15) (r * 2) (λ i low.
    sym (bit_at_cat_low (r * 2 / 32768) 15 (r * 2 % 32768) i low) ∙ ap (λ m. bit_at m i) whole)
    ∙ lowest_doubled 14 r

small : (n : ℕ) → n < 2 → (n ≡ 0 → ⊥) → n ≡ 1
small n low some = omega arith

odd_sum : (a b : ℕ) → a < 2 → b < 2 → ((a + b) % 2 == 1) ≡ xor (a == 1) (b == 1)
unfolding xor
odd_sum zero zero x y = refl
odd_sum zero (suc zero) x y = refl
odd_sum (suc zero) zero x y = refl
odd_sum (suc zero) (suc zero) x y = refl
odd_sum zero (suc (suc b)) x y = absurd (omega arith)
odd_sum (suc zero) (suc (suc b)) x y = absurd (omega arith)
odd_sum (suc (suc a)) b x y = absurd (omega arith)

lowest_xor : (n a b : ℕ) → lowest_bits n (bit_xor a b) ≡ plus (lowest_bits n a) (lowest_bits n b)
unfolding lowest_bits plus
lowest_xor zero a b = refl
lowest_xor (suc n) a b =
    let first = ap (λ m. m == 1) (bit_at_xor a b n) ∙ odd_sum (bit_at a n) (bit_at b n) (bit_at-lt a n) (bit_at-lt b n) in
    λ i. first i ∷ lowest_xor n a b i

generator_bits : lowest_bits 15 0x4599 ≡ generator
unfolding lowest_bits
generator_bits = refl

no_bits : lowest_bits 15 0 ≡ replicate 15 false
unfolding lowest_bits
no_bits = refl

-- ---- long division, step by step

abbrev next : Bool → ℕ → ℕ
next changes r = cond changes (bit_xor (r * 2 % 2 ^ 15) 0x4599) (r * 2 % 2 ^ 15)

moved : (xs : List Bool) (r : ℕ) → plus xs (lowest_bits 14 r) ≡ plus xs (lowest_bits 15 (r * 2 % 2 ^ 15))
moved xs r = sym (ap (plus xs) (shifted r) ∙ plus_false xs (lowest_bits 14 r))

divides : (first : Bool) (n : ℕ) (xs : List Bool) (r : ℕ)
    → divided (suc n) (first ∷ plus xs (lowest_bits 14 r)) ≡ divided n (plus xs (lowest_bits 15 (next first r)))
unfolding divided
divides false n xs r = ap (divided n) (moved xs r)
divides true n xs r =
    let s = r * 2 % 2 ^ 15 in
    let few : length generator ≤ length (lowest_bits 15 s) =
    subst (λ m. 15 ≤ m) (sym (length_lowest 15 s)) (omega arith) in
    ap (divided n)
    (ap (λ (l : List Bool). plus l generator) (moved xs r)
    ∙ (plus_assoc xs (lowest_bits 15 s) generator few
    ∙ ap (plus xs) (ap (plus (lowest_bits 15 s)) (sym generator_bits) ∙ sym (lowest_xor 15 s 0x4599))))

register_is : (t : Transmitter) (b : Bool) → next (xor b (bit t.register 14)) t.register ≡ (transmitter_with t b).register
unfolding transmitter_with register_with
register_is t b = refl

-- the register after some bits is the remainder of what it held and of the bits
runs : (bits : List Bool) (t : Transmitter)
    → divided (length bits) (plus (bits ++ replicate 15 false) (lowest_bits 15 t.register))
    ≡ lowest_bits 15 (transmitter_after t bits).register
unfolding transmitter_after divided plus lowest_bits
runs [] t = zeros_plus (lowest_bits 15 t.register)
runs (b ∷ bits) t =
    let xs = bits ++ replicate 15 false in
    divides (xor b (bit t.register 14)) (length bits) xs t.register
    ∙ (ap (λ r. divided (length bits) (plus xs (lowest_bits 15 r))) (register_is t b)
    ∙ runs bits (transmitter_with t b))

-- the CRC sequence of bits is what the register of a transmitter that has sent them holds
pub register_holds : (bits : List Bool) (t : Transmitter) → t.register ≡ 0
    → lowest_bits 15 (transmitter_after t bits).register ≡ crc bits
unfolding crc
register_holds bits t none =
    sym (runs bits t)
    ∙ ap (divided (length bits))
    (ap (plus (bits ++ replicate 15 false)) (ap (lowest_bits 15) none ∙ no_bits)
    ∙ plus_zeros (bits ++ replicate 15 false) 15)
