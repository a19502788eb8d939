-- Images, back to what they are images of.
use Rattle.std.proofs.Common.{ℕ, ◌+◌, ◌<◌, ◌≡◌, ◌≢◌, ◌&&◌, length, take, get_or, Bool, true, false, List, [], ◌∷◌, ◌++◌, Some, append_assoc, append-nil, nat_eq, slice_get, refl, sym, ap, subst, ◌∙◌, inl, inr}
use Rattle.std.proofs.lemmas.Bool.{eqb-true, eq-eqb}
use Rattle.std.specs.Bool.{Decides}
use Rattle.std.proofs.lemmas.Slice.Eq.{slice_eq-Decides}
use Rattle.std.specs.Cmp.Lexicographic.{pointwise}
use Rattle.ccan_language.specs.contracts.letter.LetterPartialEq.TheImpl.{ghosts as letter_is}
use Rattle.ccan_language.specs.declared.letter.Letter.{Letter}
use Rattle.ccan_language.specs.declared.images.Images.{Images}
use Rattle.ccan_language.specs.declared.node.Edge.{Edge}
use Rattle.ccan_language.specs.declared.node.Node.{Node}
use Rattle.ccan_language.specs.declared.node.Node.TheVariants.{End, Fork}
use Rattle.ccan_language.specs.Images.{IsImageFrom, image_of, without_letter, word_image}
use Rattle.ccan_language.specs.Equal.{letters}
use Rattle.ccan_language.specs.Words.{AreNormal, IsWordFrom, with_letter, with_letters}
use Rattle.ccan_language.proofs.Decided.{without_with}
use Rattle.ccan_language.proofs.Grown.{from_end, from_fork}
use Rattle.ccan_language.proofs.Said.{letters_push, take_next}

-- ---- what is said of equal letters and words

both_true : (a b : Bool) → a ≡ true → b ≡ true → (a && b) ≡ true
both_true true b h k = k
both_true false b h k = h

of_both : (a b : Bool) → (a && b) ≡ true → (a ≡ true) × (b ≡ true)
of_both true b h = (refl, h)
of_both false b h = absurd cc

like_itself : (a b : Letter) → a ≡ b → letter_is.eq a b ≡ true
like_itself a b same =
    both_true (nat_eq a.place b.place) (nat_eq a.answer b.answer)
    (eq-eqb a.place b.place (ap (λ (l : Letter). l.place) same))
    (eq-eqb a.answer b.answer (ap (λ (l : Letter). l.answer) same))

letter_tells : (a b : Letter) → Decides (letter_is.eq a b) (a ≡ b)
letter_tells a b = (
  (λ same.
      let both = of_both (nat_eq a.place b.place) (nat_eq a.answer b.answer) same in
      letters a b (eqb-true a.place b.place both.0) (eqb-true a.answer b.answer both.1)),
  like_itself a b,
)

pub word_tells : (a b : List Letter) (r : Bool) → r ≡ pointwise letter_is.eq a b → Decides r (a ≡ b)
word_tells a b r is = slice_eq-Decides letter_tells a b r is

pub unlike_by : (a b : List Letter) (r : Bool) → r ≡ pointwise letter_is.eq a b → r ≡ false → a ≢ b
unlike_by a b r is so = λ same. let never : true ≡ false = sym ((word_tells a b r is).1 same) ∙ so in cc

-- ---- a word with letters more tells the word

pub with_tells : (letter : Letter) (a b : List Letter) → with_letter letter a ≡ with_letter letter b → a ≡ b
with_tells letter a b same =
    sym (without_with letter a) ∙ (ap (without_letter letter) same ∙ without_with letter b)

pub with_all_tells : (letters : List Letter) (a b : List Letter) → with_letters letters a ≡ with_letters letters b → a ≡ b
with_all_tells [] a b same = same
with_all_tells (letter ∷ later) a b same =
    with_tells letter a b (with_all_tells later (with_letter letter a) (with_letter letter b) same)

-- the last of so many letters is the last that is added
pub last_added : (letters : List Letter) (i : ℕ) (d : Letter) (word : List Letter) → i < length letters
    → with_letters (take (i + 1) letters) word ≡ with_letter (get_or letters i d) (with_letters (take i letters) word)
last_added letters i d word low =
    ap (λ (l : List Letter). with_letters l word) (take_next letters i d low)
    ∙ letters_push (take i letters) (get_or letters i d) word

-- ---- from an image on

module _ (nodes : List Node) (images : Images) (normal : AreNormal nodes) (index : ℕ) (word : List Letter) where
  -- each word from here on with the image that is left makes a word of which the whole is the image, behind these letters
  abbrev pub GoesOn : ℕ → List Letter → List Letter → Type 0
  GoesOn at left source =
      (tail : List Letter) → IsWordFrom nodes at tail → word_image images tail ≡ left
      → IsWordFrom nodes index (source ++ tail) × (word_image images (source ++ tail) ≡ word)

  pub ended : (at : ℕ) (left source : List Letter) → slice_get nodes at ≡ Some End → IsImageFrom nodes images at left
      → GoesOn at left source → IsWordFrom nodes index source × (word_image images source ≡ word)
  ended at left source there image goes =
      let none = from_end nodes at image.0 there image.1 in
      let both = goes [] (IsWordFrom.Ends there refl) (sym (image.2 ∙ ap (word_image images) none)) in
      subst (λ (w : List Letter). IsWordFrom nodes index w × (word_image images w ≡ word)) (append-nil source) both

  pub by_edge : (at : ℕ) (edge : Edge) (left later source more : List Letter) → slice_get nodes at ≡ Some (Fork edge)
      → with_letters (image_of images edge.letter) later ≡ left → more ≡ source ++ edge.letter ∷ []
      → GoesOn at left source → GoesOn edge.to later more
  by_edge at edge left later source more there is longer goes tail stands image =
      let both = goes (edge.letter ∷ tail) (IsWordFrom.GoesOn edge there tail stands refl)
      (ap (λ (w : List Letter). with_letters (image_of images edge.letter) w) image ∙ is) in
      let same : source ++ edge.letter ∷ tail ≡ more ++ tail =
      sym (ap (λ (l : List Letter). l ++ tail) longer ∙ append_assoc source (edge.letter ∷ []) tail) in
      subst (λ (w : List Letter). IsWordFrom nodes index w × (word_image images w ≡ word)) same both

  pub by_others : (at : ℕ) (edge : Edge) (left source : List Letter) → slice_get nodes at ≡ Some (Fork edge)
      → GoesOn at left source → GoesOn edge.others left source
  by_others at edge left source there goes tail stands image = goes tail (IsWordFrom.IsOther edge there stands) image

  -- if no word that the edge leads to has the rest as its image, another has the whole
  pub image_of_others : (at : ℕ) (edge : Edge) (left : List Letter) → slice_get nodes at ≡ Some (Fork edge)
      → ((later : List Letter) → IsImageFrom nodes images edge.to later
      → with_letters (image_of images edge.letter) later ≢ left)
      → IsImageFrom nodes images at left → IsImageFrom nodes images edge.others left
  image_of_others at edge left there never image =
      elim (from_fork nodes at edge image.0 there image.1) as (λ _. IsImageFrom nodes images edge.others left) [
        | inl on ↦ absurd (never (word_image images on.0) (on.0, on.1, refl)
            (sym (image.2 ∙ ap (word_image images) on.2)))
        | inr other ↦ (image.0, other, image.2)
      ]

  -- the same, of what is equal
  pub image_at : (at to : ℕ) (left later : List Letter) → at ≡ to → left ≡ later → IsImageFrom nodes images to later
      → IsImageFrom nodes images at left
  image_at at to left later place word_is image =
      subst (λ (n : ℕ). IsImageFrom nodes images n left) (sym place)
      (image.0, image.1, word_is ∙ image.2)

  pub goes_at : (at to : ℕ) (left later source more : List Letter) → at ≡ to → left ≡ later → source ≡ more
      → GoesOn to later more → GoesOn at left source
  goes_at at to left later source more place word_is source_is goes tail stands image =
      let both = goes tail (subst (λ (n : ℕ). IsWordFrom nodes n tail) place stands) (image ∙ word_is) in
      subst (λ (w : List Letter). IsWordFrom nodes index (w ++ tail) × (word_image images (w ++ tail) ≡ word))
      (sym source_is) both
