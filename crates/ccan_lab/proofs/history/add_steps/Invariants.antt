use Rattle.std.proofs.Common.{◌≡◌, ◌++◌, take, string_bytes}
use Rattle.std.specs.List.{enumerate_from, flat_map}
use Rattle.ccan_lab.specs.History.{step_text}
use Rattle.ccan_lab.proofs.history.add_steps.Given as goal

-- the lines of the steps so far
abbrev pub invariant-loop-index : goal.invariant-loop-index
invariant-loop-index l =
    string_bytes l.text ≡ string_bytes l.initial.text
    ++ flat_map (λ step. step_text step.0 step.1) (take l.index (enumerate_from 1 l.steps))
