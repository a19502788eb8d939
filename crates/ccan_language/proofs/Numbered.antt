-- The word with a number.
use Rattle.std.proofs.Common.{ℕ, ◌-◌, ◌<◌, ◌≤◌, ◌≡◌, Bool, true, false, List, [], ◌∷◌, ◌++◌, length, get_or, slice_get, Some, refl, sym, ap, ◌∙◌, arith, inl, inr, min, append_assoc, length-append}
use Rattle.std.proofs.Math.Nat.{min-le_left}
use Rattle.std.proofs.lemmas.Option.{get_or_from_slice_get, slice_get_read}
use Rattle.ccan_language.specs.declared.letter.Letter.{Letter}
use Rattle.ccan_language.specs.declared.node.Edge.{Edge}
use Rattle.ccan_language.specs.declared.node.Node.{Node}
use Rattle.ccan_language.specs.declared.node.Node.TheVariants.{Fork}
use Rattle.ccan_language.specs.Count.{all_words, IsWordAt}
use Rattle.ccan_language.specs.Words.{AreNormal}
use Rattle.ccan_language.proofs.Counted.{min_is}
use Rattle.ccan_language.proofs.Grown.{slice_get_left}
use Rattle.ccan_language.proofs.Listed.{behind_at, behind_edge, behind_long, slice_get_back, words_fork}

pub read_at : (xs : List ℕ) (index number : ℕ) → index < length xs → number ≡ get_or xs index number
    → number ≡ get_or xs index 0
read_at xs index number low is =
    sym (get_or_from_slice_get xs index number 0 (slice_get_read xs (length xs) index number refl low is))

pub below_count : (number before many top : ℕ) → before ≡ min many top → number < before → number < many
below_count number before many top is less =
    let most = min-le_left many top in omega (arith, is, less, most)

pub past_count : (number before many top : ℕ) → before ≡ min many top → before ≤ number → number < top → before ≡ many
past_count number before many top is high few =
    elim (min_is many top) as (λ _. before ≡ many) [
      | inl low ↦ is ∙ low.1
      | inr full ↦ let same : before ≡ top = is ∙ full.1 in absurd (omega (arith, same, high, few))
    ]

module _ (nodes : List Node) (normal : AreNormal nodes) (index : ℕ) (edge : Edge)
    (at : slice_get nodes index ≡ Some (Fork edge)) (number : ℕ) where
  pub by_edge : (old pushed new : List Letter) (found : Bool) → number < length (all_words nodes edge.to)
      → pushed ≡ old ++ edge.letter ∷ [] → IsWordAt (all_words nodes edge.to) number pushed new found
      → IsWordAt (all_words nodes index) number old new found
  by_edge old pushed new true less is h = (
    edge.letter ∷ h.0,
    ap (λ (l : List (List Letter)). slice_get l number) (words_fork nodes normal index edge at)
        ∙ slice_get_left (behind_edge edge (all_words nodes edge.to)) (all_words nodes edge.others) number (edge.letter ∷ h.0)
        (behind_at edge (all_words nodes edge.to) number h.0 h.1),
    h.2 ∙ (ap (λ (l : List Letter). l ++ h.0) is ∙ append_assoc old (edge.letter ∷ []) h.0),
  )
  by_edge old pushed new false less is h = absurd (omega (arith, less, h))

  pub by_others : (before : ℕ) (old new : List Letter) (found : Bool) → before ≡ length (all_words nodes edge.to)
      → before ≤ number → IsWordAt (all_words nodes edge.others) (number - before) old new found
      → IsWordAt (all_words nodes index) number old new found
  by_others before old new true is high h = (
    h.0,
    (let long = behind_long edge (all_words nodes edge.to) in
        ap (λ (l : List (List Letter)). slice_get l number) (words_fork nodes normal index edge at)
        ∙ (slice_get_back (behind_edge edge (all_words nodes edge.to)) (all_words nodes edge.others) number
        (omega (arith, long, is, high))
        ∙ (ap (λ (n : ℕ). slice_get (all_words nodes edge.others) (number - n)) (long ∙ sym is) ∙ h.1))),
    h.2,
  )
  by_others before old new false is high h =
      let long = behind_long edge (all_words nodes edge.to) in
      let sum = length-append (behind_edge edge (all_words nodes edge.to)) (all_words nodes edge.others) in
      let whole = ap (λ (l : List (List Letter)). length l) (words_fork nodes normal index edge at) in
      omega (arith, long, sum, whole, is, high, h)
