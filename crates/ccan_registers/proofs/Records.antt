-- Records and their words.
use Rattle.std.proofs.Common.{ℕ, ◌≡◌, ◌+◌, ◌*◌, ◌<◌, ◌≤◌, List, [], ◌∷◌, ◌++◌, length, get_or, take, drop, Some, zero, suc, refl, sym, ap, subst, ◌∙◌, arith}
use Rattle.std.specs.List.{flat_map}
use Rattle.std.specs.Prelude.{All}
use Rattle.std.proofs.lemmas.List.{drop-drop, drop_more, get_or-drop, take_more, append_assoc}
use Rattle.std.proofs.lemmas.List.Elements.{All-head, All-tail}
use Rattle.ccan_object.specs.declared.record.Record.{Record}
use Rattle.ccan_object.specs.Packing.{packed, unpacked_from}
use Rattle.ccan_object.specs.Record.{IsRecord, zero_record}
use Rattle.ccan_object.proofs.RoundTrip.{from_packed}

-- records with the same words are the same
pub same_record : (a b : Record) → IsRecord a → IsRecord b → packed a ≡ packed b → a ≡ b
same_record a b x y e = let h : Some a ≡ Some b = sym (from_packed a x) ∙ (ap unpacked_from e ∙ from_packed b y) in cc

-- lists of records too
pub same_records : (rs qs : List Record) → All IsRecord rs → All IsRecord qs → flat_map packed rs ≡ flat_map packed qs → rs ≡ qs
same_records [] [] x y e = refl
same_records [] (q ∷ qs) x y e = absurd (let n = ap length e in omega arith)
same_records (r ∷ rs) [] x y e = absurd (let n = ap length e in omega arith)
same_records (r ∷ rs) (q ∷ qs) x y e =
    let first : r ≡ q =
    same_record r q (All-head IsRecord r rs x) (All-head IsRecord q qs y) (ap (λ (l : List ℕ). take 3 l) e) in
    let rest : rs ≡ qs =
    same_records rs qs (All-tail IsRecord r rs x) (All-tail IsRecord q qs y) (ap (λ (l : List ℕ). drop 3 l) e) in
    cc

-- past the words of the first k records are those of the others
pub words_past : (rs : List Record) (k : ℕ) → k < length rs + 1 → drop (3 * k) (flat_map packed rs) ≡ flat_map packed (drop k rs)
words_past rs zero low = refl
words_past [] (suc k) low = absurd (omega arith)
words_past (r ∷ rs) (suc k) low =
    let n : 3 * suc k ≡ 3 + 3 * k = omega arith in
    subst (λ m. drop m (flat_map packed (r ∷ rs)) ≡ flat_map packed (drop k rs)) (sym n)
    (sym (drop-drop (3 * k) 3 (flat_map packed (r ∷ rs))) ∙ words_past rs k (omega arith))

-- the words of the record at a place
pub words_at : (rs : List Record) (ws : List ℕ) (k : ℕ) → k < length rs → flat_map packed rs ≡ ws
    → packed (get_or rs k zero_record) ≡ get_or ws (3 * k) 0 ∷ get_or ws (3 * k + 1) 0 ∷ get_or ws (3 * k + 2) 0 ∷ []
words_at rs ws k low text =
    let r = get_or rs k zero_record in
    let rest : drop (3 * k) ws ≡ packed r ++ flat_map packed (drop (k + 1) rs) =
    ap (λ (l : List ℕ). drop (3 * k) l) (sym text) ∙ (words_past rs k (omega arith)
    ∙ ap (λ (l : List Record). flat_map packed l) (drop_more rs k zero_record low)) in
    let at : (i : ℕ) → get_or (packed r ++ flat_map packed (drop (k + 1) rs)) i 0 ≡ get_or ws (3 * k + i) 0 =
    λ i. sym (ap (λ (l : List ℕ). get_or l i 0) rest) ∙ get_or-drop (3 * k) ws i 0 in
    let zeroth = at 0 ∙ ap (λ n. get_or ws n 0) (let e : 3 * k + 0 ≡ 3 * k = omega arith in e) in
    let first = at 1 in
    let second = at 2 in
    cc

-- three words more
pub take_three : (ws : List ℕ) (k : ℕ) → 3 * k + 3 ≤ length ws
    → take (3 * k) ws ++ (get_or ws (3 * k) 0 ∷ get_or ws (3 * k + 1) 0 ∷ get_or ws (3 * k + 2) 0 ∷ []) ≡ take (3 * (k + 1)) ws
take_three ws k low =
    let a = take_more ws (3 * k) 0 (omega arith) in
    let b = take_more ws (3 * k + 1) 0 (omega arith) in
    let c = take_more ws (3 * k + 2) 0 (omega arith) in
    let x = get_or ws (3 * k) 0 in
    let y = get_or ws (3 * k + 1) 0 in
    let z = get_or ws (3 * k + 2) 0 in
    let t = take (3 * k) ws in
    let two : 3 * k + 1 + 1 ≡ 3 * k + 2 = omega arith in
    let three : 3 * k + 2 + 1 ≡ 3 * (k + 1) = omega arith in
    let all : take (3 * k + 2 + 1) ws ≡ ((t ++ x ∷ []) ++ y ∷ []) ++ z ∷ [] =
    c ∙ ap (λ (l : List ℕ). l ++ z ∷ [])
    (ap (λ n. take n ws) (sym two) ∙ (b ∙ ap (λ (l : List ℕ). l ++ y ∷ []) a)) in
    let grouped : ((t ++ x ∷ []) ++ y ∷ []) ++ z ∷ [] ≡ t ++ (x ∷ y ∷ z ∷ []) =
    append_assoc (t ++ x ∷ []) (y ∷ []) (z ∷ []) ∙ append_assoc t (x ∷ []) (y ∷ z ∷ []) in
    sym grouped ∙ (sym all ∙ ap (λ n. take n ws) three)
