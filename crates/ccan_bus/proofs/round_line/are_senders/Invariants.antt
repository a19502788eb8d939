use Rattle.ccan_bus.proofs.Senders.{AreMarked}
use Rattle.ccan_bus.proofs.round_line.are_senders.Given as goal

abbrev pub invariant-loop-place : goal.invariant-loop-place
invariant-loop-place l = AreMarked l.nodes l.sends l.place l.sent
