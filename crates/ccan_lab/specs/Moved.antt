-- The frame that is on the bus in a step of a history. Source: this project's own, over what a round decides.
use Rattle.std.specs.Prelude.{ℕ, zero, suc, ◌≡◌, Option, Some, None, option_and_then, slice_get}
use Rattle.ccan_accept.specs.declared.frame.Frame.{Frame}
use Rattle.ccan_bus.specs.declared.bus.Bus.{Bus}
use Rattle.ccan_bus.specs.declared.decision.Decision.{Decision}
use Rattle.ccan_bus.specs.declared.round_line.RoundLine.{RoundLine}
use Rattle.ccan_bus.specs.Bus.{GoesOn}
use Rattle.ccan_bus.specs.Decide.{Decides}
use Rattle.ccan_bus.specs.Decision.{winner_of}
use Rattle.ccan_bus.specs.Past.{hears_itself}
use Rattle.ccan_line.specs.Script.{ScriptFields}
use Rattle.ccan_line.specs.BusLine.{round_of}
use Rattle.ccan_outcomes.specs.declared.all_ports.AllPorts.{AllPorts}

-- the round that the line of this number is, from 1
abbrev pub round_at : ScriptFields → ℕ → Option RoundLine
round_at script zero = None
round_at script (suc line) = option_and_then round_of (slice_get script.bus line)

-- the frame that wins the round on this bus, and the node that sends it, 0 being the controller; or none wins it
abbrev pub WinsRound : Bus → RoundLine → Option (ℕ × Frame) → Type 0
WinsRound bus round winner =
    (decision : Decision) × (after : Bus)
    × GoesOn bus after (λ past next. Decides (hears_itself past) round past next decision) × (winner ≡ winner_of decision)

-- the same if the line is a round; else there is none
abbrev pub IsWonBy : Option RoundLine → Bus → Option (ℕ × Frame) → Type 0
IsWonBy (Some round) bus winner = WinsRound bus round winner
IsWonBy None bus winner = winner ≡ None

-- the same of the line of this number, from 1, on the bus as it is in this state
abbrev pub IsWonAt : ScriptFields → ℕ → AllPorts → Option (ℕ × Frame) → Type 0
IsWonAt script line state winner = IsWonBy (round_at script line) state.bus.bus winner
