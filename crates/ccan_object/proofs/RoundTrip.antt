-- Records and their words, there and back.
use Rattle.std.proofs.Common.{ℕ, ◌≡◌, ◌<◌, ◌==◌, ◌^◌, nat_le, Bool, true, false, ◌||◌, not, is_some, List, [], ◌∷◌, get_or, Some, inl, inr, zero, suc, refl, ap, subst, sym, ◌∙◌, arith}
use Rattle.std.specs.Int.{w64, to_le_bytes}
use Rattle.std.specs.Prelude.{IsNone}
use Rattle.std.proofs.lemmas.Bool.{or_parts, not-false}
use Rattle.std.proofs.lemmas.Bool.Decides.{leb_tells, Decides-eqb}
use Rattle.ccan_object.specs.declared.record.Record.{Record}
use Rattle.ccan_object.specs.Bits.{bit, part}
use Rattle.ccan_object.specs.Record.{IsRecord}
use Rattle.ccan_object.specs.Packing.{packed, unpacked, unpacked_from, has_reserved, IsThreeWords}
use Rattle.ccan_object.specs.Laws.{PacksBack, NoRecordPacks, RoundTrips}
use Rattle.ccan_object.proofs.Words.{packed-unpacked, unpacked-packed, not_reserved}

-- the words of a record hold it
pub from_packed : (r : Record) → IsRecord r → unpacked_from (packed r) ≡ Some r
from_packed r is = rw (not_reserved r _ _ _ is refl) (ap Some (unpacked-packed r _ _ _ is refl))

-- what holds of three words holds of all lists that are three words
by_three : (P : List ℕ → Type 0) → ((w c d : ℕ) → IsThreeWords (w ∷ c ∷ d ∷ []) → P (w ∷ c ∷ d ∷ []))
    → (words : List ℕ) → IsThreeWords words → P words
by_three P all (w ∷ c ∷ d ∷ []) is = all w c d is
by_three P all [] is = absurd (omega arith)
by_three P all (w ∷ []) is = absurd (omega arith)
by_three P all (w ∷ c ∷ []) is = absurd (omega arith)
by_three P all (w ∷ c ∷ d ∷ e ∷ more) is = absurd (omega arith)

-- the bytes of a word are bytes
word_bytes : (d i e : ℕ) → i < 8 → get_or (to_le_bytes w64 d) i e < 2 ^ 8
word_bytes d zero e low = omega arith
word_bytes d (suc zero) e low = omega arith
word_bytes d (suc (suc zero)) e low = omega arith
word_bytes d (suc (suc (suc zero))) e low = omega arith
word_bytes d (suc (suc (suc (suc zero)))) e low = omega arith
word_bytes d (suc (suc (suc (suc (suc zero))))) e low = omega arith
word_bytes d (suc (suc (suc (suc (suc (suc zero)))))) e low = omega arith
word_bytes d (suc (suc (suc (suc (suc (suc (suc zero))))))) e low = omega arith
word_bytes d (suc (suc (suc (suc (suc (suc (suc (suc i)))))))) e low = absurd (omega arith)

-- whatever stands in three numbers, what they hold has the ranges of a record
unpacked-is : (w c d : ℕ) → IsRecord (unpacked w c d)
unpacked-is w c d =
    record {
      id = omega arith;
      mask = omega arith;
      dlc = omega arith;
      length_is = refl;
      bytes = λ i e low. word_bytes d i e low;
    }

below : (limit n : ℕ) → nat_le limit n ≡ false → n < limit
below limit n not_above = elim (leb_tells limit n) [
  | inl h ↦ (let both : true ≡ false = sym h.0 ∙ not_above in absurd cc)
  | inr h ↦ h.1
]

-- three words without a reserved bit pack back
packs : (w c d : ℕ) → IsThreeWords (w ∷ c ∷ d ∷ []) → has_reserved (w ∷ c ∷ d ∷ []) ≡ false
    → packed (unpacked w c d) ≡ w ∷ c ∷ d ∷ []
packs w c d is free =
    let both = or_parts (bit w 61 || not (part c 4 3 == 0)) (nat_le (2 ^ 16) c) free in
    let first = or_parts (bit w 61) (not (part c 4 3 == 0)) both.0 in
    packed-unpacked w c d (is.sizes 0 0 (omega arith)) (below (2 ^ 16) c both.1) (is.sizes 2 0 (omega arith))
    first.0 ((Decides-eqb (part c 4 3) 0).0 (not-false (part c 4 3 == 0) first.1))

packs_back : (w c d : ℕ) → IsThreeWords (w ∷ c ∷ d ∷ []) → (reserved : Bool) → has_reserved (w ∷ c ∷ d ∷ []) ≡ reserved
    → PacksBack (w ∷ c ∷ d ∷ [])
packs_back w c d is true h = rw h tt
packs_back w c d is false h = rw h (unpacked-is w c d, packs w c d is h)

-- a record that packs to some words is held by them
some_record : (words : List ℕ) → IsNone (unpacked_from words) → NoRecordPacks words
some_record words none = λ object is packs.
    let held : unpacked_from words ≡ Some object =
    subst (λ (ws : List ℕ). unpacked_from ws ≡ Some object) packs (from_packed object is) in
    let both : true ≡ false = sym (ap is_some held) ∙ none in
    absurd cc

no_record : (w c d : ℕ) → IsThreeWords (w ∷ c ∷ d ∷ []) → (reserved : Bool) → has_reserved (w ∷ c ∷ d ∷ []) ≡ reserved
    → NoRecordPacks (w ∷ c ∷ d ∷ []) → IsNone (unpacked_from (w ∷ c ∷ d ∷ []))
no_record w c d is true h none = rw h refl
no_record w c d is false h none = absurd (none (unpacked w c d) (unpacked-is w c d) (packs w c d is h))

pub round_trips : RoundTrips
round_trips = (
  from_packed,
  by_three PacksBack (λ w c d is. packs_back w c d is (has_reserved (w ∷ c ∷ d ∷ [])) refl),
  λ words is. (
    some_record words,
    by_three (λ ws. NoRecordPacks ws → IsNone (unpacked_from ws))
        (λ w c d three. no_record w c d three (has_reserved (w ∷ c ∷ d ∷ [])) refl) words is,
  ),
)
