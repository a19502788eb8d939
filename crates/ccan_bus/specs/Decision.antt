-- Whose frame won the bus, by what a round has come to. Source: this project's own.
use Rattle.std.specs.Prelude.{ℕ, Option, Some, None}
use Rattle.ccan_accept.specs.declared.frame.Frame.{Frame}
use Rattle.ccan_bus.specs.declared.decision.Decision.{Decision}
use Rattle.ccan_bus.specs.declared.decision.Decision.TheVariants as decision

abbrev pub winner_of : Decision → Option (ℕ × Frame)
winner_of decision.Idle = None
winner_of decision.Collision = None
winner_of (decision.Fault winner frame) = Some (winner, frame)
winner_of (decision.NoAck winner frame) = Some (winner, frame)
winner_of (decision.Finish object frame) = Some (0, frame)
winner_of (decision.Receipt winner frame) = Some (winner, frame)
winner_of (decision.Passed winner frame) = Some (winner, frame)
winner_of (decision.LoopBack object frame) = Some (0, frame)
