use Rattle.std.proofs.Common.{◌-◌}
use Rattle.ccan_run.specs.Outcome.{object_lines}
use Rattle.ccan_run.specs.Waiting.{AddsText}
use Rattle.ccan_run.proofs.outcome_text.add_finals.Given as goal

-- the lines of the objects so far went out or wait
abbrev pub invariant-loop-number : goal.invariant-loop-number
invariant-loop-number g l =
    AddsText (g.W.Write.contents l.initial.writer) (g.W.Write.contents l.writer) l.initial.waiting.items l.waiting.items
    (object_lines (l.number - 1) l.last.records)
