use Rattle.std.proofs.Common.{◌≡◌, ◌++◌, drop}
use Rattle.ccan_page.specs.Data.{later_outcomes}
use Rattle.ccan_page.proofs.data.push_later_outcomes.Given as goal

-- the outcomes so far, and those to come
abbrev pub invariant-loop-outcome : goal.invariant-loop-outcome
invariant-loop-outcome l =
    l.data ++ later_outcomes (drop l.outcome-index l.outcomes) ≡ l.initial.data ++ later_outcomes l.outcomes
