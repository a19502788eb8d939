-- Who contends for the bus in a round, and whose frame goes on. Source: CAN Specification 2.0, part B, sections 2
-- (arbitration) and 3.1.1; that the frame of an object is the one that was loaded is this project's own.
use Rattle.std.specs.Prelude.{ℕ, ◌≡◌, ◌<◌, ◌==◌, Bool, ◌&&◌, not, List, [], ◌∷◌, ◌++◌, map, length, Option, Some, None, slice_index_or}
use Rattle.std.specs.List.{filter, list_all, list_any}
use Rattle.ccan_object.specs.declared.record.Record.{Record}
use Rattle.ccan_accept.specs.declared.frame.Frame.{Frame}
use Rattle.ccan_accept.specs.Send.{frame_of}
use Rattle.ccan_bus.specs.declared.arbitration.Outcome.TheVariants.{Winner}
use Rattle.ccan_bus.specs.declared.round_line.RoundLine.{RoundLine}
use Rattle.ccan_bus.specs.Arbitration.{Arbitrates, arbitration_bits, precedes}
use Rattle.ccan_bus.specs.Past.{BusPast, is_on}

-- the loaded frame, sent by node 0
abbrev pub own_frame : Option (ℕ × Record) → List (ℕ × Frame)
own_frame None = []
own_frame (Some started) = (0, frame_of started.1) ∷ []

-- the frames of the nodes that are on: the loaded one, and those of the line
unfoldable pub contenders : (ℕ → Bool) → Option (ℕ × Record) → List (ℕ × Frame) → List (ℕ × Frame)
contenders on loaded sends = filter (λ c. on c.0) (own_frame loaded ++ sends)

abbrev pub contenders_of : BusPast → RoundLine → List (ℕ × Frame)
contenders_of past line = contenders (is_on past) past.loaded line.send.items

abbrev pub frames_of : List (ℕ × Frame) → List Frame
frames_of contenders = map (λ c. c.1) contenders

-- no frame precedes this one
abbrev pub is_least : Frame → List Frame → Bool
is_least frame frames = list_all (λ other. not (precedes (arbitration_bits other) (arbitration_bits frame))) frames

-- the node sends one of the frames that no frame precedes
unfoldable pub sends_least : List (ℕ × Frame) → ℕ → Bool
sends_least contenders node = list_any (λ c. c.0 == node && is_least c.1 (frames_of contenders)) contenders

-- a contender's frame precedes all others
pub record IsWonBy (contenders : List (ℕ × Frame)) (winner : ℕ) (frame : Frame) : Type 0 where
  pub place : ℕ
  pub within : place < length contenders
  pub outcome : Arbitrates (frames_of contenders) (Winner place)
  pub sent : (winner, frame) ≡ slice_index_or contenders place (winner, frame)
