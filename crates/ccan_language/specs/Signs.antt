-- The first word that has some signs. Source: this project's own.
use Rattle.std.specs.Prelude.{ℕ, ◌≡◌, Bool, not, List, Option, None, filter, position, Contains}
use Rattle.std.specs.List.{list_all, list_any}
use Rattle.ccan_language.specs.declared.letter.Letter.{Letter}
use Rattle.ccan_language.specs.declared.node.Node.{Node}
use Rattle.ccan_language.specs.declared.signs.Vain.{Vain}
use Rattle.ccan_language.specs.Count.{all_words}

-- one of the letters of the word bears the sign
abbrev pub has_sign : (Letter → ℕ → Bool) → List Letter → ℕ → Bool
has_sign bears word sign = list_any (λ letter. bears letter sign) word

-- the word has each of these signs
abbrev pub has_signs : (Letter → ℕ → Bool) → List ℕ → List Letter → Bool
has_signs bears signs word = list_all (has_sign bears word) signs

-- the number of the first word that has them
abbrev pub first_with : (Letter → ℕ → Bool) → List ℕ → List (List Letter) → Option ℕ
first_with bears signs words = position (has_signs bears signs) words

-- the signs that a word still has to have after this letter
abbrev pub signs_left : (Letter → ℕ → Bool) → List ℕ → Letter → List ℕ
signs_left bears signs letter = filter (λ sign. not (bears letter sign)) signs

-- what is kept is right: the signs were sought in vain among the words from the node
abbrev pub AreVain : (Letter → ℕ → Bool) → List Node → List Vain → Type 0
AreVain bears nodes kept =
    (vain : Vain) → Contains kept vain → first_with bears vain.signs.items (all_words nodes vain.node) ≡ None
