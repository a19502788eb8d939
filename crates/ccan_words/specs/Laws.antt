-- Both layouts are lawful. Source: this project's own.
use Rattle.std.proofs.Common.{⊎_elim, ◌⊎◌, false, cond, ◌&&◌, Bool, ◌++◌, ◌≡◌, ◌≢◌, ℕ, zero, suc, ◌+◌, ◌-◌, ◌*◌, ◌/◌, ◌%◌}
use Rattle.std.proofs.Common.{◌<◌, ◌≤◌, ◌==◌, List, [], ◌∷◌, get_or, sym, refl, ap, ◌∙◌, arith, true, eq-eqb, ne_eqb}
use Rattle.std.proofs.Common.{true≢false, lit<, lit≤, zero-add, add-zero}
use Rattle.std.proofs.lemmas.Bool.{eqb-true}
use Rattle.ccan_object.specs.declared.profile.Profile.{Profile}
use Rattle.ccan_object.specs.declared.profile.Profile.TheVariants.{One, Two}
use Rattle.ccan_object.specs.declared.record.Record.{Record}
use Rattle.ccan_object.specs.Record.{zero_record}
use Rattle.ccan_object.specs.Profile.{objects_in, Holds}
use Rattle.ccan_object.specs.Packing.{packed}
use Rattle.ccan_ram.specs.declared.port.PortName.{PortName}
use Rattle.ccan_ram.specs.declared.port.PortName.TheVariants.{If1, If2, Bus}
use Rattle.ccan_ram.specs.declared.change.Change.{Change}
use Rattle.ccan_ram.specs.Port.{port_index, change_number}
use Rattle.ccan_ram.specs.Change.{changed}
use Rattle.ccan_ram.specs.History.{is_change, record_at, History}
use Rattle.ccan_ram.specs.Attempt.{change_at}
use Rattle.ccan_words.specs.Layout.{IsNumber, Lies, Shows, Makes, IsChangeFor}
use Rattle.ccan_words.specs.OneWordEach.{newest, word_form, word_place, word_cell, same_object}
use Rattle.ccan_words.specs.OneWord.{records_from, image, root_place, root_form, root_offset}

-- a profile has at most 64 objects
most_objects : (profile : Profile) → objects_in profile ≤ 64
most_objects One = lit≤ tt
most_objects Two = lit≤ tt

below_three : (p : PortName) → port_index p < 3
below_three If1 = lit< tt
below_three If2 = lit< tt
below_three Bus = lit< tt

quotient : (p c : ℕ) → c < 65536 → (p * 65536 + c) / 65536 ≡ p
quotient p c l = omega arith

remainder : (p c : ℕ) → c < 65536 → (p * 65536 + c) % 65536 ≡ c
remainder p c l = omega arith

-- the number of a change, if the port has made few
few_number : (p : PortName) (c : ℕ) → c < 65536 → change_number p c ≡ port_index p * 65536 + c
few_number p c l = let e : (c / 65536) * 262144 + (port_index p * 65536 + c % 65536) ≡ port_index p * 65536 + c = omega arith in e

equal : (i k : ℕ) → (i == k) ≡ true → i ≡ k
equal i k e = eqb-true i k e

unequal : (i k : ℕ) → (i == k) ≡ false → i ≢ k
unequal i k e same = true≢false (sym (eq-eqb i k same) ∙ e)

-- ---- a word for each object

word_place-of : (p c j : ℕ) → c < 65536 → word_place (p * 65536 + c) j ≡ 512 + p * 12288 + (c - 1) * 3 + j
word_place-of p c j l = let q = quotient p c l in let r = remainder p c l in omega arith

-- where a version's word is, by the port and the count of its change
word_at : (n j : ℕ) (x : IsNumber 4096 n) → word_place n j ≡ 512 + port_index x.port * 12288 + (x.count - 1) * 3 + j
word_at n j x =
    let most = x.up_to in
    ap (λ (m : ℕ). word_place m j) (x.is ∙ few_number x.port x.count (omega arith))
    ∙ word_place-of (port_index x.port) x.count j (omega arith)

word_one : (n j m i : ℕ) → IsNumber 4096 n → IsNumber 4096 m → j < 3 → i < 3 → word_place n j ≡ word_place m i → (n ≡ m) × (j ≡ i)
word_one n j m i x y l k same =
    let p : ℕ = port_index x.port in let c : ℕ = x.count in let q : ℕ = port_index y.port in let d : ℕ = y.count in
    let a1 : p < 3 = below_three x.port in let b1 = x.from_one in let d1 = x.up_to in
    let a2 : q < 3 = below_three y.port in let b2 = y.from_one in let d2 = y.up_to in
    let e = word_at n j x in let f = word_at m i y in
    let xi : n ≡ p * 65536 + c = x.is ∙ few_number x.port x.count (omega arith) in
    let yi : m ≡ q * 65536 + d = y.is ∙ few_number y.port y.count (omega arith) in
    let ports : p ≡ q = omega arith in let counts : c ≡ d = omega arith in
    (omega arith, omega arith)

pub word_lies : (profile : Profile) → Lies (word_form profile)
word_lies profile = record {
  few = lit≤ tt;
  cells = λ k held. let o = most_objects profile in let low = held.least in let high = held.greatest in omega arith;
  itself = λ k. eq-eqb k k refl;
  sharing = λ i k e. ap word_cell (equal i k e);
  separate = λ i k l m e same. let n = unequal i k e in let s : (i - 1) * 8 ≡ (k - 1) * 8 = same in n (omega arith);
  above = lit≤ tt;
  fits = λ n j x l.
      let a = below_three x.port in let b = x.from_one in let d = x.up_to in let e = word_at n j x in
      (omega arith, omega arith);
  one = word_one;
}

both : (a b : Bool) → a ≡ true → b ≡ true → (a && b) ≡ true
both true b x y = y
both false b x y = x

word_shown : (k j : ℕ) (at : History) → IsChangeFor same_object k at
    → get_or (newest at) (0 + j) 0 ≡ get_or (packed (record_at k at)) j 0
word_shown k j [] is = absurd is
word_shown k j (e ∷ at) is =
    let here : cond (is_change e && (e.object == k)) e.after (record_at k at) ≡ e.after =
    ap (λ (b : Bool). cond b e.after (record_at k at)) (both (is_change e) (e.object == k) is.0 is.1) in
    ap (λ (i : ℕ). get_or (packed e.after) i 0) (zero-add j) ∙ ap (λ (r : Record). get_or (packed r) j 0) (sym here)

pub word_shows : (profile : Profile) → Shows (word_form profile)
word_shows profile = record { inside = λ k held. lit≤ tt; value = λ k j at held is less. word_shown k j at is }

nothing_beside : (j : ℕ) → j < 3 → (j < 0) ⊎ (0 + 3 ≤ j) → ⊥
nothing_beside j l out = ⊎_elim (λ x. let y : ⊥ = omega arith in y) (λ x. let y : ⊥ = omega arith in y) out

pub word_makes : (profile : Profile) → Makes (word_form profile)
word_makes profile = record {
  value = λ p k i c r h held m. ap (λ (z : ℕ). get_or (packed (changed c r)) z 0) (zero-add i);
  none = λ p k j c r h held inside out all. absurd (nothing_beside j inside out);
  rest = λ p k j c r h at held inside out all. absurd (nothing_beside j inside out);
}

-- ---- one word for all objects

root_place-of : (p c j : ℕ) → c < 65536 → root_place (p * 65536 + c) j ≡ 8 + p * 12288 + (c - 1) * 192 + j
root_place-of p c j l = let q = quotient p c l in let r = remainder p c l in omega arith

root_at : (n j : ℕ) (x : IsNumber 64 n) → root_place n j ≡ 8 + port_index x.port * 12288 + (x.count - 1) * 192 + j
root_at n j x =
    let most = x.up_to in
    ap (λ (m : ℕ). root_place m j) (x.is ∙ few_number x.port x.count (omega arith))
    ∙ root_place-of (port_index x.port) x.count j (omega arith)

root_one : (n j m i : ℕ) → IsNumber 64 n → IsNumber 64 m → j < 192 → i < 192 → root_place n j ≡ root_place m i → (n ≡ m) × (j ≡ i)
root_one n j m i x y l k same =
    let p : ℕ = port_index x.port in let c : ℕ = x.count in let q : ℕ = port_index y.port in let d : ℕ = y.count in
    let a1 : p < 3 = below_three x.port in let b1 = x.from_one in let d1 = x.up_to in
    let a2 : q < 3 = below_three y.port in let b2 = y.from_one in let d2 = y.up_to in
    let e = root_at n j x in let f = root_at m i y in
    let xi : n ≡ p * 65536 + c = x.is ∙ few_number x.port x.count (omega arith) in
    let yi : m ≡ q * 65536 + d = y.is ∙ few_number y.port y.count (omega arith) in
    let ports : p ≡ q = omega arith in let counts : c ≡ d = omega arith in
    (omega arith, omega arith)

pub root_lies : (profile : Profile) → Lies (root_form profile)
root_lies profile = record {
  few = lit≤ tt;
  cells = λ k held. lit< tt;
  itself = λ k. refl;
  sharing = λ i k e. refl;
  separate = λ i k l m e same. true≢false e;
  above = lit≤ tt;
  fits = λ n j x l.
      let o = most_objects profile in let a = below_three x.port in let b = x.from_one in let d = x.up_to in
      let e = root_at n j x in (omega arith, omega arith);
  one = λ n j m i x y l k same. let o = most_objects profile in root_one n j m i x y (omega arith) (omega arith) same;
}

-- three words before others
beside : (a b c : ℕ) (rest : List ℕ) (i : ℕ) → i < 3 → get_or ((a ∷ b ∷ c ∷ []) ++ rest) i 0 ≡ get_or (a ∷ b ∷ c ∷ []) i 0
beside a b c rest zero l = refl
beside a b c rest (suc zero) l = refl
beside a b c rest (suc (suc zero)) l = refl
beside a b c rest (suc (suc (suc i))) l = absurd (omega arith)

behind : (r : Record) (rest : List ℕ) (i : ℕ) → get_or (packed r ++ rest) (suc (suc (suc i))) 0 ≡ get_or rest i 0
behind r rest i = refl

-- the words of the q-th record of a row
from_at : (k n q i : ℕ) (h : History) → q < n → i < 3
    → get_or (records_from k n h) (q * 3 + i) 0 ≡ get_or (packed (record_at (k + q) h)) i 0
unfolding records_from
from_at k zero q i h l m = absurd (omega arith)
from_at k (suc n) zero i h l m =
    let none : 0 * 3 + i ≡ i = omega arith in
    ap (λ (z : ℕ). get_or (packed (record_at k h) ++ records_from (k + 1) n h) z 0) none
    ∙ (beside _ _ _ (records_from (k + 1) n h) i m ∙ ap (λ (z : ℕ). get_or (packed (record_at z h)) i 0) (sym (add-zero k)))
from_at k (suc n) (suc q) i h l m =
    let here : suc q * 3 + i ≡ suc (suc (suc (q * 3 + i))) = omega arith in
    let there : k + 1 + q ≡ k + suc q = omega arith in
    ap (λ (z : ℕ). get_or (packed (record_at k h) ++ records_from (k + 1) n h) z 0) here
    ∙ (behind (record_at k h) (records_from (k + 1) n h) (q * 3 + i)
    ∙ (from_at (k + 1) n q i h (omega arith) m ∙ ap (λ (z : ℕ). get_or (packed (record_at z h)) i 0) there))

image-at : (profile : Profile) (q i : ℕ) (h : History) → q < objects_in profile → i < 3
    → get_or (image profile h) (q * 3 + i) 0 ≡ get_or (packed (record_at (1 + q) h)) i 0
unfolding image
image-at profile q i h l m = from_at 1 (objects_in profile) q i h l m

-- an object's words, by the object's number
image_of : (profile : Profile) (k i : ℕ) (h : History) → Holds profile k → i < 3
    → get_or (image profile h) (root_offset k + i) 0 ≡ get_or (packed (record_at k h)) i 0
image_of profile k i h held m =
    let low = held.least in let high = held.greatest in let same : 1 + (k - 1) ≡ k = omega arith in
    image-at profile (k - 1) i h (omega arith) m ∙ ap (λ (z : ℕ). get_or (packed (record_at z h)) i 0) same

here_now : (p : PortName) (k : ℕ) (c : Change) (r : Record) (h : History) → record_at k (change_at p k c r ∷ h) ≡ changed c r
here_now p k c r h = ap (λ (b : Bool). cond b (changed c r) (record_at k h)) (eq-eqb k k refl)

not_here : (p : PortName) (k o : ℕ) (c : Change) (r : Record) (h : History) → k ≢ o
    → record_at o (change_at p k c r ∷ h) ≡ record_at o h
not_here p k o c r h n = ap (λ (b : Bool). cond b (changed c r) (record_at o h)) (ne_eqb k o n)

pub root_shows : (profile : Profile) → Shows (root_form profile)
root_shows profile = record {
  inside = λ k held. let low = held.least in let high = held.greatest in omega arith;
  value = λ k j at held is less. image_of profile k j at held less;
}

-- a word beside an object's record is of another record, which a change of the object leaves as it was
pub record Elsewhere (profile : Profile) (p : PortName) (k j : ℕ) (c : Change) (r : Record) (h : History) : Type 0 where
  pub q : ℕ
  pub i : ℕ
  pub q_less : q < objects_in profile
  pub i_less : i < 3
  pub is : j ≡ q * 3 + i
  pub word : get_or (image profile (change_at p k c r ∷ h)) j 0 ≡ get_or (packed (record_at (1 + q) h)) i 0

elsewhere : (profile : Profile) (p : PortName) (k j : ℕ) (c : Change) (r : Record) (h : History) → Holds profile k
    → j < objects_in profile * 3 → (j < root_offset k) ⊎ (root_offset k + 3 ≤ j) → Elsewhere profile p k j c r h
elsewhere profile p k j c r h held inside out =
    let low = held.least in
    let q : ℕ = j / 3 in let i : ℕ = j % 3 in
    let is : j ≡ q * 3 + i = omega arith in
    let lq : q < objects_in profile = omega arith in let li : i < 3 = omega arith in
    let other : k ≢ 1 + q = λ e.
    ⊎_elim (λ (x : j < root_offset k). let y : ⊥ = omega arith in y)
    (λ (x : root_offset k + 3 ≤ j). let y : ⊥ = omega arith in y) out in
    record {
      q = q;
      i = i;
      q_less = lq;
      i_less = li;
      is = is;
      word =
          ap (λ (z : ℕ). get_or (image profile (change_at p k c r ∷ h)) z 0) is
          ∙ (image-at profile q i (change_at p k c r ∷ h) lq li
          ∙ ap (λ (z : Record). get_or (packed z) i 0) (not_here p k (1 + q) c r h other));
    }

zero-at : (i : ℕ) → get_or (packed zero_record) i 0 ≡ 0
zero-at zero = refl
zero-at (suc zero) = refl
zero-at (suc (suc zero)) = refl
zero-at (suc (suc (suc i))) = refl

pub root_makes : (profile : Profile) → Makes (root_form profile)
root_makes profile = record {
  value = λ p k i c r h held m.
      image_of profile k i (change_at p k c r ∷ h) held m ∙ ap (λ (z : Record). get_or (packed z) i 0) (here_now p k c r h);
  none = λ p k j c r h held inside out all.
      let e = elsewhere profile p k j c r h held inside out in
      e.word ∙ (ap (λ (z : Record). get_or (packed z) e.i 0) (all (1 + e.q) refl) ∙ zero-at e.i);
  rest = λ p k j c r h at held inside out all.
      let e = elsewhere profile p k j c r h held inside out in
      e.word ∙ (ap (λ (z : Record). get_or (packed z) e.i 0) (sym (all (1 + e.q) refl))
      ∙ (sym (image-at profile e.q e.i at e.q_less e.i_less) ∙ ap (λ (z : ℕ). get_or (image profile at) z 0) (sym e.is)));
}
