use Rattle.std.proofs.Common.{take}
use Rattle.ccan_run.specs.Outcome.{port_lines}
use Rattle.ccan_run.specs.Waiting.{AddsText}
use Rattle.ccan_run.proofs.outcome_text.add_answers.Given as goal

-- the lines of the answers so far went out or wait
abbrev pub invariant-loop-answer : goal.invariant-loop-answer
invariant-loop-answer g l =
    AddsText (g.W.Write.contents l.initial.writer) (g.W.Write.contents l.writer) l.initial.waiting.items l.waiting.items
    (port_lines l.port (take l.answer-index l.answers))
