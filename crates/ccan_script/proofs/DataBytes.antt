-- The bytes of a text of hexadecimal digits, one after another.
use Rattle.std.proofs.Common.{◌≡◌, ◌<◌, ◌≤◌, ◌+◌, ◌-◌, ◌*◌, ◌/◌, ◌%◌, ◌==◌, ℕ, zero, suc, List, [], ◌∷◌, ◌++◌, true}
use Rattle.std.proofs.Common.{length, take, get_or, set, replicate, refl, ap, sym, ◌∙◌, arith, eqb-true}
use Rattle.std.proofs.lemmas.List.{take_all}
use Rattle.std.specs.Char.{digit_value, is_ascii_hexdigit}
use Rattle.std.specs.List.{list_all}
use Rattle.ccan_script.specs.FrameLine.{data_bytes, eight_bytes, is_data_text}
use Rattle.ccan_script.proofs.Words.{and_left, and_right}

twice : ℕ → ℕ
twice zero = 0
twice (suc n) = suc (suc (twice n))

twice_is : (n : ℕ) → twice n ≡ 2 * n
unfolding twice
twice_is zero = refl
twice_is (suc n) = let before = twice_is n in omega arith

abbrev byte_at : List ℕ → ℕ → ℕ
byte_at text n = digit_value (get_or text n 0) * 16 + digit_value (get_or text (suc n) 0)

step : (n : ℕ) (text : List ℕ) → suc (twice n) < length text
    → data_bytes (take (suc (suc (twice n))) text) ≡ data_bytes (take (twice n) text) ++ byte_at text (twice n) ∷ []
unfolding twice
step zero [] h = absurd (omega arith)
step zero (d ∷ []) h = absurd (omega arith)
step zero (d ∷ e ∷ text) h = refl
step (suc n) [] h = absurd (omega arith)
step (suc n) (d ∷ []) h = absurd (omega arith)
step (suc n) (d ∷ e ∷ text) h = ap (λ (bs : List ℕ). (digit_value d * 16 + digit_value e) ∷ bs) (step n text (omega arith))

count : (n : ℕ) (text : List ℕ) → twice n ≤ length text → length (data_bytes (take (twice n) text)) ≡ n
unfolding twice
count zero text h = refl
count (suc n) [] h = absurd (omega arith)
count (suc n) (d ∷ []) h = absurd (omega arith)
count (suc n) (d ∷ e ∷ text) h = ap suc (count n text (omega arith))

set_next : (xs : List ℕ) (m b : ℕ) → set (xs ++ replicate (suc m) 0) (length xs) b ≡ (xs ++ b ∷ []) ++ replicate m 0
set_next [] m b = refl
set_next (x ∷ xs) m b = ap (λ (ys : List ℕ). x ∷ ys) (set_next xs m b)

-- the bytes so far, and 0 past them
abbrev pub so_far : ℕ → List ℕ → List ℕ
so_far n text = data_bytes (take (2 * n) text) ++ replicate (8 - n) 0

pub none_yet : (text : List ℕ) → replicate 8 0 ≡ so_far 0 text
none_yet text = refl

pub one_more : (n b : ℕ) (text bytes : List ℕ) → n < 8 → 2 * n + 1 < length text
    → b ≡ digit_value (get_or text (2 * n) 0) * 16 + digit_value (get_or text (2 * n + 1) 0)
    → bytes ≡ so_far n text → set bytes n b ≡ so_far (n + 1) text
one_more n b text bytes few h is before =
    let double : twice n ≡ 2 * n = twice_is n in
    let within : suc (twice n) < length text = omega arith in
    let known : length (data_bytes (take (2 * n) text)) ≡ n = ap (λ k. length (data_bytes (take k text))) (sym double)
    ∙ count n text (omega arith) in
    let room : 8 - n ≡ suc (8 - (n + 1)) = omega arith in
    let next : 2 * (n + 1) ≡ suc (suc (twice n)) = omega arith in
    let after : 2 * n + 1 ≡ suc (twice n) = omega arith in
    let byte : b ≡ byte_at text (twice n) = is ∙ (λ i. digit_value (get_or text (sym double i) 0) * 16 + digit_value
    (get_or text (after i) 0)) in
    ap (λ bs. set bs n b) (before ∙ ap (λ k. data_bytes (take (2 * n) text) ++ replicate k 0) room)
    ∙ ap (λ k. set (data_bytes (take (2 * n) text) ++ replicate (suc (8 - (n + 1))) 0) k b) (sym known)
    ∙ set_next (data_bytes (take (2 * n) text)) (8 - (n + 1)) b
    ∙ ap (λ bs. bs ++ replicate (8 - (n + 1)) 0)
    (ap (λ k. data_bytes (take k text) ++ b ∷ []) (sym double) ∙ ap (λ c. data_bytes (take (twice n) text) ++ c ∷ []) byte
    ∙ sym (step n text within)
    ∙ ap (λ k. data_bytes (take k text)) (sym next))

even : (text : List ℕ) → is_data_text text ≡ true → length text % 2 ≡ 0
unfolding is_data_text
even text h = eqb-true (length text % 2) 0 (and_left (length text % 2 == 0) _ h)

pub hexadecimal : (text : List ℕ) → is_data_text text ≡ true → list_all is_ascii_hexdigit text ≡ true
unfolding is_data_text
hexadecimal text h = and_right (length text % 2 == 0) _ h

hex_at : (text : List ℕ) (n : ℕ) → list_all is_ascii_hexdigit text ≡ true → n < length text
    → is_ascii_hexdigit (get_or text n 0) ≡ true
hex_at [] n h within = absurd (omega arith)
hex_at (c ∷ cs) zero h within = and_left (is_ascii_hexdigit c) _ h
hex_at (c ∷ cs) (suc n) h within = hex_at cs n (and_right (is_ascii_hexdigit c) _ h) (omega arith)

pub digit_at : (text : List ℕ) (n : ℕ) → is_data_text text ≡ true → n < length text → is_ascii_hexdigit (get_or text n 0) ≡ true
digit_at text n h within = hex_at text n (hexadecimal text h) within

pub all_bytes : (n : ℕ) (text bytes : List ℕ) → is_data_text text ≡ true → length text ≤ 16 → n ≡ length text / 2
    → bytes ≡ so_far n text → bytes ≡ eight_bytes text
unfolding eight_bytes
all_bytes n text bytes h few is before =
    let pairs = even text h in
    let double : twice n ≡ 2 * n = twice_is n in
    let whole : length text ≤ 2 * n = omega arith in
    let known : length (data_bytes (take (2 * n) text)) ≡ n = ap (λ k. length (data_bytes (take k text))) (sym double)
    ∙ count n text (omega arith) in
    let all : data_bytes (take (2 * n) text) ≡ data_bytes text = ap data_bytes (take_all (2 * n) text whole) in
    before ∙ ap (λ bs. bs ++ replicate (8 - n) 0) all
    ∙ ap (λ k. data_bytes text ++ replicate (8 - k) 0) (sym known ∙ ap length all)
