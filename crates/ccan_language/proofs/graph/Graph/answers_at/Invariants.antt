use Rattle.std.proofs.Common.{◌≤◌, length}
use Rattle.ccan_language.proofs.Reached.{Seen}
use Rattle.ccan_language.proofs.graph.Graph.answers_at.Given as goal

abbrev pub invariant-loop-left : goal.invariant-loop-left
invariant-loop-left l = record {
  few : l.left ≤ length l.marks.items;
  seen : Seen l.self.nodes.keys l.index l.place l.marks.items l.answers.keys l.left;
}

abbrev pub decreases-loop-left : goal.decreases-loop-left
decreases-loop-left l = l.left
