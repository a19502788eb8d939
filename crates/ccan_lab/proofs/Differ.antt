-- Two texts of one length that begin with the same bytes, all of them, are the same.
use Rattle.std.proofs.Common.{◌≡◌, ◌≤◌, ℕ, List, length, take, sym, ◌∙◌}
use Rattle.std.proofs.lemmas.List.{take_all}

pub all_same : (xs ys : List ℕ) (n : ℕ) → length xs ≤ n → length ys ≤ n → take n xs ≡ take n ys → ys ≡ xs
all_same xs ys n short short_too same = sym (take_all n ys short_too) ∙ sym same ∙ take_all n xs short
