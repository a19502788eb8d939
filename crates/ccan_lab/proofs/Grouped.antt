-- The first step of a line of steps, and what is written while they go on.
use Rattle.std.proofs.Common.{ℕ, suc, ◌≡◌, ◌+◌, ◌++◌, false, true, Bool, List, [], slice_get, unwrap_or, sym, ap, ◌∙◌, add-one, append-nil, if◌then◌else◌}
use Rattle.ccan_outcomes.specs.declared.history_step.HistoryStep.{HistoryStep}
use Rattle.ccan_lab.specs.Brief.{first_at, goes_on_at, group_between, group_text}

pub first_behind : (steps : List HistoryStep) (place : ℕ) → goes_on_at steps place ≡ false → place + 1 ≡ first_at steps (place + 1)
unfolding first_at
first_behind steps place not =
    add-one place ∙ (sym (ap (λ (b : Bool). if b then first_at steps place else suc place) not)
    ∙ ap (first_at steps) (sym (add-one place)))

pub first_stays : (steps : List HistoryStep) (place : ℕ) → goes_on_at steps place ≡ true
    → first_at steps place ≡ first_at steps (place + 1)
unfolding first_at
first_stays steps place so =
    sym (ap (λ (b : Bool). if b then first_at steps place else suc place) so) ∙ ap (first_at steps) (sym (add-one place))

pub nothing_yet : (steps : List HistoryStep) (details : List (List ℕ)) (place : ℕ) (text : List ℕ) → goes_on_at steps place ≡ true
    → text ≡ text ++ group_text steps details place
unfolding group_text
nothing_yet steps details place text so =
    sym (append-nil text)
    ∙ ap (λ (b : Bool). text ++ (if b then [] else group_between (slice_get steps (first_at steps place)) (slice_get steps place)
    (first_at steps place) place (unwrap_or (slice_get details place) []))) (sym so)
