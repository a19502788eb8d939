use Rattle.std.proofs.Common.{take}
use Rattle.ccan_run.specs.Ordered.{answers_text}
use Rattle.ccan_run.specs.Waiting.{AddsText}
use Rattle.ccan_run.proofs.text.add_replies.Given as goal

-- the lines of the answers so far went out or wait
abbrev pub invariant-loop-port : goal.invariant-loop-port
invariant-loop-port g l =
    AddsText (g.W.Write.contents l.initial.writer) (g.W.Write.contents l.writer) l.initial.waiting.items l.waiting.items
    (answers_text (take l.port-index l.answers))
