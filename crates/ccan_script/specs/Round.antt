-- The line of a round in a script: the frames that the other nodes send, and what spoils the winner's. Source: this
-- project's own.
use Rattle.std.specs.Prelude.{ℕ, ◌≡◌, ◌&&◌, Bool, true, not, ◌==◌, List, [], ◌∷◌, Option}
use Rattle.std.specs.Prelude.{codes, length, map, is_some, nat_le, unwrap_or}
use Rattle.std.specs.List.{list_any}
use Rattle.serde_json.specs.Data.{Data}
use Rattle.serde_json.specs.Find.{get}
use Rattle.ccan_bus.specs.declared.round_line.RoundLine.{RoundLine}
use Rattle.ccan_bus.specs.declared.round_line.Fault.TheVariants.{Quiet}
use Rattle.ccan_script.specs.declared.line_fault.LineFault.{LineFault}
use Rattle.ccan_line.specs.Limits.{most_frames}
use Rattle.ccan_script.specs.LineFault.{first_fault, shape_check}
use Rattle.ccan_script.specs.Json.{can_be_list, has_only, lines_in}
use Rattle.ccan_script.specs.FaultName.{fault_in}
use Rattle.ccan_script.specs.FrameLine.{frame_fault, sending_of, words_of}

-- the values of the frames, in their order
unfoldable pub frames_in : Data → List Data
frames_in d = lines_in (get (codes "send") d)

-- the member `send`, if there is one, is a list of not too many values
unfoldable pub can_send : Data → Bool
can_send d = can_be_list (get (codes "send") d) && nat_le (length (frames_in d)) most_frames

-- an object of the members that a round has, and no others, each of its shape
unfoldable pub is_round : Data → Bool
is_round d =
    has_only (codes "op" ∷ codes "send" ∷ codes "fault" ∷ []) d && (is_some (fault_in d) && can_send d)

-- the first fault of the frames, each of which is checked as a whole before the next
unfoldable pub frames_fault : ℕ → List Data → Option LineFault
frames_fault nodes frames = first_fault (map (frame_fault nodes) frames)

-- no number is there twice
abbrev pub are_distinct : List ℕ → Bool
are_distinct [] = true
are_distinct (n ∷ ns) = not (list_any (λ m. m == n) ns) && are_distinct ns

-- the nodes that send
abbrev pub senders_of : List Data → List ℕ
senders_of frames = map (λ d. (words_of d).node) frames

-- the shape is checked, then the frames, and then that no node is named twice
unfoldable pub round_fault : ℕ → Data → Option LineFault
round_fault nodes d =
    first_fault (shape_check (is_round d) ∷ frames_fault nodes (frames_in d)
    ∷ shape_check (are_distinct (senders_of (frames_in d))) ∷ [])

-- the round is that of a value without faults
pub record SaysRound (d : Data) (line : RoundLine) : Type 0 where
  pub sends : line.send.items ≡ map sending_of (frames_in d)
  pub fault : line.fault ≡ unwrap_or (fault_in d) Quiet
