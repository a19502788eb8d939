use Rattle.std.proofs.Common.{◌≡◌, ◌++◌, drop}
use Rattle.ccan_page.specs.Data.{later_steps}
use Rattle.ccan_page.proofs.step_data.push_later_steps.Given as goal

-- the steps so far, and those to come
abbrev pub invariant-loop-step : goal.invariant-loop-step
invariant-loop-step l =
    l.data ++ later_steps (drop l.step-index l.steps) ≡ l.initial.data ++ later_steps l.steps
