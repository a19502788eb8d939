-- The frame that was on the bus in a round, and its sender, by the round's report. Source: this project's own, over what a round
-- decides.
use Rattle.std.specs.Prelude.{ℕ, Option, option_and_then}
use Rattle.ccan_accept.specs.declared.frame.Frame.{Frame}
use Rattle.ccan_bus.specs.declared.round_report.RoundReport.{RoundReport}
use Rattle.ccan_bus.specs.Decision.{winner_of}

-- the frame that was on the bus alone, and the node that sent it, 0 being the controller; none if no frame won
abbrev pub winner_in : RoundReport → Option (ℕ × Frame)
winner_in report = option_and_then winner_of report.decision
