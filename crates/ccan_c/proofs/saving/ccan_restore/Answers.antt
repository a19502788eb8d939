use Rattle.std.proofs.Common.{◌≡◌, ◌≢◌, ℕ, inl, inr, ◌∙◌, sym}
use Rattle.ccan_c.specs.Codes.{done}
use Rattle.ccan_c.specs.Saving.{IsNotRestored}
use Rattle.ccan_c.proofs.saving.ccan_restore.Goals as goal

not_done : (code : ℕ) → IsNotRestored code → code ≢ done
not_done code (inl is) here = absurd (let wrong : 4 ≡ 0 = sym is ∙ here in cc)
not_done code (inr (inl is)) here = absurd (let wrong : 24 ≡ 0 = sym is ∙ here in cc)
not_done code (inr (inr (inl is))) here = absurd (let wrong : 2 ≡ 0 = sym is ∙ here in cc)
not_done code (inr (inr (inr is))) here = absurd (let wrong : 3 ≡ 0 = sym is ∙ here in cc)

pub returns-in-Err-clause-done : goal.returns-in-Err-clause-done
returns-in-Err-clause-done c = λ here. absurd (not_done _ c.in-Err.ensures.fails here)

pub returns-in-Err-clause-code : goal.returns-in-Err-clause-code
returns-in-Err-clause-code c = inr (inr c.in-Err.ensures.fails)
