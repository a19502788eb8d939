use Rattle.std.proofs.Common.{◌≡◌, ◌++◌, drop, false}
use Rattle.ccan_explain.specs.Column.{flags_behind}
use Rattle.ccan_explain.proofs.draw.column.column_of.Given as goal

-- the flags so far, and those of the steps to come
abbrev pub invariant-loop-step : goal.invariant-loop-step
invariant-loop-step l =
    l.shown.items ++ flags_behind l.object l.flag (drop l.step-index l.steps) l.is ≡ flags_behind l.object l.flag l.steps false
