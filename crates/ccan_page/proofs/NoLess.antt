-- What is shielded has no `<`.
use Rattle.std.proofs.Common.{ℕ, ◌≡◌, ◌∙◌, ◌==◌, ◌&&◌, ◌∷◌, [], List, Bool, true, false, not, cond, codes, ap, refl}
use Rattle.std.proofs.lemmas.List.Folds.{list_all-append}
use Rattle.std.specs.List.{list_all}
use Rattle.ccan_page.specs.PageText.{is_no_less, shielded, shielded_byte}

one_byte : (byte : ℕ) (test : Bool) → (byte == 60) ≡ test
    → list_all is_no_less (cond test (codes "\\u003c") (byte ∷ [])) ≡ true
one_byte byte true is = refl
one_byte byte false is = ap (λ (t : Bool). not t && true) is

pub none_is_less : (json : List ℕ) → list_all is_no_less (shielded json) ≡ true
none_is_less [] = refl
none_is_less (byte ∷ rest) =
    list_all-append is_no_less (shielded_byte byte) (shielded rest)
    ∙ ap (λ (t : Bool). t && list_all is_no_less (shielded rest)) (one_byte byte (byte == 60) refl) ∙ none_is_less rest
