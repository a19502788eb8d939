use Rattle.ccan_lab.specs.Choices.{HasPort}
use Rattle.ccan_lab.proofs.choices.add_port.Given as goal

-- the lines so far
abbrev pub invariant-loop-line : goal.invariant-loop-line
invariant-loop-line g l = HasPort (g.T.ByLine.is_outcome l.outcomes) l.port l.line l.initial.all.items l.all.items
