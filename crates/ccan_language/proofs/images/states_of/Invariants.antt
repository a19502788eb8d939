use Rattle.ccan_language.specs.Images.{AreStatesOf}
use Rattle.ccan_language.proofs.images.states_of.Given as goal

abbrev pub invariant-loop-place : goal.invariant-loop-place
invariant-loop-place l = AreStatesOf l.graph.nodes.keys l.images l.place l.states.items
