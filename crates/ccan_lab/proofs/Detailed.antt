-- What is written of the steps of a history, one more step at a time.
use Rattle.std.proofs.Common.{ℕ, ◌+◌, ◌≡◌, List, [], ◌∷◌, ◌++◌, Some, length, slice_get, sym, ap, subst, ◌∙◌, arith, inl, inr}
use Rattle.std.proofs.lemmas.Bool.{cases_lt}
use Rattle.ccan_language.proofs.Grown.{same_some, slice_get_front, slice_get_last_is}
use Rattle.ccan_line.specs.Script.{ScriptFields}
use Rattle.ccan_outcomes.specs.declared.all_ports.AllPorts.{AllPorts}
use Rattle.ccan_outcomes.specs.declared.history_step.HistoryStep.{HistoryStep}
use Rattle.ccan_lab.specs.Brief.{IsDetailOf}

module _ (script : ScriptFields) (states : List AllPorts) where
  -- the text is of the step at this place
  abbrev pub IsAt : ℕ → HistoryStep → List ℕ → Type 0
  IsAt place step text =
      (from to : AllPorts) → slice_get states place ≡ Some from → slice_get states (place + 1) ≡ Some to
      → IsDetailOf script step step.kind from to text

  -- these texts are those of the first steps
  abbrev pub AreSoFar : List HistoryStep → List (List ℕ) → Type 0
  AreSoFar steps details =
      (place : ℕ) (step : HistoryStep) (text : List ℕ) → slice_get steps place ≡ Some step
      → slice_get details place ≡ Some text → IsAt place step text

  pub detail_push : (steps : List HistoryStep) (details : List (List ℕ)) (count : ℕ) (step : HistoryStep) (text : List ℕ)
      → length details ≡ count → slice_get steps count ≡ Some step → IsAt count step text → AreSoFar steps details
      → AreSoFar steps (details ++ text ∷ [])
  detail_push steps details count step text long here is so_far place other words at_step at_text =
      elim (cases_lt place (length details)) as (λ _. IsAt place other words) [
        | inl less ↦ so_far place other words at_step (sym (slice_get_front details (text ∷ []) place less) ∙ at_text)
        | inr high ↦
            let last = slice_get_last_is details text words place high at_text in
            let same_place : count ≡ place = omega (arith, last, long) in
            let same_step : step ≡ other =
            same_some step other (sym here ∙ (ap (slice_get steps) same_place ∙ at_step)) in
            subst (λ (n : ℕ). IsAt n other words) same_place
            (subst (λ (s : HistoryStep). IsAt count s words) same_step (subst (IsAt count step) last.1 is))
      ]
