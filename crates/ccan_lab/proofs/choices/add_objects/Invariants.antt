use Rattle.ccan_lab.specs.Choices.{HasObjects}
use Rattle.ccan_lab.proofs.choices.add_objects.Given as goal

-- the objects so far
abbrev pub invariant-loop-index : goal.invariant-loop-index
invariant-loop-index l = HasObjects l.memories l.index l.initial.all.items l.all.items
