-- Lists of eight bytes.
use Rattle.std.proofs.Common.{ℕ, ◌≡◌, List, [], ◌∷◌, length, arith}

-- what holds of all lists of eight holds of this one
pub by_eight : (P : List ℕ → Type 0)
    → ((a b c d e f g h : ℕ) → P (a ∷ b ∷ c ∷ d ∷ e ∷ f ∷ g ∷ h ∷ []))
    → (bytes : List ℕ) → length bytes ≡ 8 → P bytes
by_eight P all (a ∷ b ∷ c ∷ d ∷ e ∷ f ∷ g ∷ h ∷ []) is = all a b c d e f g h
by_eight P all [] is = absurd (omega arith)
by_eight P all (a ∷ []) is = absurd (omega arith)
by_eight P all (a ∷ b ∷ []) is = absurd (omega arith)
by_eight P all (a ∷ b ∷ c ∷ []) is = absurd (omega arith)
by_eight P all (a ∷ b ∷ c ∷ d ∷ []) is = absurd (omega arith)
by_eight P all (a ∷ b ∷ c ∷ d ∷ e ∷ []) is = absurd (omega arith)
by_eight P all (a ∷ b ∷ c ∷ d ∷ e ∷ f ∷ []) is = absurd (omega arith)
by_eight P all (a ∷ b ∷ c ∷ d ∷ e ∷ f ∷ g ∷ []) is = absurd (omega arith)
by_eight P all (a ∷ b ∷ c ∷ d ∷ e ∷ f ∷ g ∷ h ∷ i ∷ more) is = absurd (omega arith)
