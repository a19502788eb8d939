-- The lowest bit that is set in a word is one.
use Rattle.std.proofs.Common.{ℕ, ◌≡◌, ◌<◌, ◌+◌, ◌^◌, ◌==◌, false, inl, inr, refl, sym, ap, ◌∙◌, arith, ne_eqb, eq-eqb}
use Rattle.std.proofs.lemmas.Bool.{cases_eq, cases_lt, false≢true}
use Rattle.std.proofs.lemmas.Nat.Bits.{bit_at-zero}
use Rattle.std.specs.Int.{trailing_zeros, w64}
use Rattle.ccan_object.specs.declared.profile.Profile.{Profile}
use Rattle.ccan_object.specs.declared.profile.Profile.TheVariants.{One, Two}
use Rattle.ccan_object.specs.Bits.{bit}
use Rattle.ccan_object.specs.Profile.{objects_in}
use Rattle.ccan_handler.specs.Moment.{IsFirstSet}
use Rattle.ccan_handler.proofs.Moments.{some_set}
use Rattle.ccan_calls.specs.Parts.{first_set}

-- a word that fits 64 bits has it
pub first_is : (word : ℕ) → word < 2 ^ 64 → IsFirstSet word (first_set word)
first_is word fits = elim (cases_eq word 0) [
  | inl zero ↦
      let none : first_set word ≡ 0 = rw (eq-eqb word 0 zero) refl in inl (none, zero)
  | inr some ↦
      let is : first_set word ≡ trailing_zeros w64 word + 1 = rw (ne_eqb word 0 some) refl in
      some_set word (first_set word) (omega (arith, some)) fits is
]

no_bit : (k : ℕ) → bit 0 k ≡ false
no_bit k = ap (λ b. b == 1) (bit_at-zero k)

-- and only one
pub first_once : (word value other : ℕ) → IsFirstSet word value → IsFirstSet word other → value ≡ other
first_once word value other (inl (none, zero)) (inl (none', zero')) = none ∙ sym none'
first_once word value other (inl (none, zero)) (inr (place, is, set, first)) =
    absurd (false≢true (sym (no_bit place) ∙ ap (λ w. bit w place) (sym zero) ∙ set))
first_once word value other (inr (place, is, set, first)) (inl (none, zero)) =
    absurd (false≢true (sym (no_bit place) ∙ ap (λ w. bit w place) (sym zero) ∙ set))
first_once word value other (inr (place, is, set, first)) (inr (place', is', set', first')) = elim (cases_lt place place') [
  | inl less ↦ absurd (false≢true (sym (first' place less) ∙ set))
  | inr not ↦ elim (cases_lt place' place) [
    | inl less ↦ absurd (false≢true (sym (first place' less) ∙ set'))
    | inr not' ↦ omega (arith, is, is', not, not')
  ]
]

-- a word with a bit for each object fits 64 bits
pub fits_objects : (profile : Profile) (word : ℕ) → word < 2 ^ objects_in profile → word < 2 ^ 64
fits_objects One word fits = omega (arith, fits)
fits_objects Two word fits = fits
