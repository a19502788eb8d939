-- Lines in the order of their bytes.
use Rattle.std.proofs.Common.{◌≡◌, ℕ, Bool, true, false, cond, List, [], ◌∷◌, Contains, Bor, All, bytes_eq, refl}
use Rattle.std.specs.Cmp.Lexicographic.{slice_cmp}
use Rattle.std.specs.declared.cmp.Ordering.TheVariants.{Less}
use Rattle.std.specs.List.{AllByRecursion, dedup, dedup_from}
use Rattle.std.specs.List.Sorted.{IsStrictlySortedBy}
use Rattle.std.specs.Ordering.{nat_cmp}
use Rattle.std.proofs.lemmas.List.Elements.{All-contains}
use Rattle.ccan_lab.specs.Sorted.{texts_of}

abbrev pub Line : Type 0
Line = Bor (List ℕ)

abbrev pub same_line : Line → Line → Bool
same_line a b = bytes_eq a.now b.now

texts_of-cond : (b : Bool) (us vs : List Line) → texts_of (cond b us vs) ≡ cond b (texts_of us) (texts_of vs)
texts_of-cond true us vs = refl
texts_of-cond false us vs = refl

texts_of-dedup_from : (xs : List Line) (k : Line) → texts_of (dedup_from same_line k xs) ≡ dedup_from bytes_eq k.now (texts_of xs)
texts_of-dedup_from [] k = refl
texts_of-dedup_from (x ∷ xs) k = rw (texts_of-cond, texts_of-dedup_from xs k, texts_of-dedup_from xs x)

pub texts_of-dedup : (xs : List Line) → texts_of (dedup same_line xs) ≡ dedup bytes_eq (texts_of xs)
texts_of-dedup [] = refl
texts_of-dedup (x ∷ xs) = texts_of-dedup_from xs x

-- what is strictly sorted by the texts has texts that are
less_texts : (x : Line) (xs : List Line) → AllByRecursion (λ y. slice_cmp nat_cmp x.now y.now ≡ Less) xs
    → AllByRecursion (λ y. slice_cmp nat_cmp x.now y ≡ Less) (texts_of xs)
less_texts x [] h = tt
less_texts x (y ∷ ys) h = (h.0, less_texts x ys h.1)

pub sorted_texts : (xs : List Line) → IsStrictlySortedBy (λ a b. slice_cmp nat_cmp a.now b.now) xs
    → IsStrictlySortedBy (slice_cmp nat_cmp) (texts_of xs)
unfolding IsStrictlySortedBy
sorted_texts [] h = tt
sorted_texts (x ∷ xs) h = (less_texts x xs h.0, sorted_texts xs h.1)

-- what holds of each item holds of one
pub All-at : {X : Type 0} (P : X → Type 0) (xs : List X) → All P xs → (x : X) → Contains xs x → P x
All-at P xs all x inside = All-contains P xs x all inside
