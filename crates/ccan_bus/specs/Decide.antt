-- What a round decides before any memory step: of each case of a round, the part that needs no memory. Source: as the
-- cases of `Round` and `LoopBack` have it.
use Rattle.std.specs.Prelude.{ℕ, ◌≡◌, ◌≢◌, Bool, true, false, [], Some, None}
use Rattle.ccan_object.specs.declared.profile.Profile.{Profile}
use Rattle.ccan_object.specs.declared.record.Record.{Record}
use Rattle.ccan_object.specs.Profile.{Holds}
use Rattle.ccan_accept.specs.declared.frame.Frame.{Frame}
use Rattle.ccan_accept.specs.Send.{frame_of}
use Rattle.ccan_bus.specs.declared.bus.Bus.{Bus}
use Rattle.ccan_bus.specs.declared.decision.Decision.{Decision}
use Rattle.ccan_bus.specs.declared.decision.Decision.TheVariants as decision
use Rattle.ccan_bus.specs.declared.round_line.RoundLine.{RoundLine}
use Rattle.ccan_bus.specs.Past.{BusPast, is_on, sends_to_itself}
use Rattle.ccan_bus.specs.Bus.{is_on_now}
use Rattle.ccan_bus.specs.LoopBack.{IsLoopIdle}
use Rattle.ccan_bus.specs.Round.{IsIdle, IsCollision, IsFault, IsNoAck, IsSuccess}

-- the line's fault spoiled this node's frame
pub record IsSpoiled (line : RoundLine) (past after : BusPast) (winner : ℕ) (frame : Frame) : Type 0 where
  pub fault : IsFault line [] past after
  pub winner_is : winner ≡ fault.winner
  pub frame_is : frame ≡ fault.frame

-- nobody acknowledged this node's frame
pub record IsUnheard (line : RoundLine) (past after : BusPast) (winner : ℕ) (frame : Frame) : Type 0 where
  pub no_ack : IsNoAck line [] past after
  pub winner_is : winner ≡ no_ack.winner
  pub frame_is : frame ≡ no_ack.frame

-- the controller's frame, loaded from this object, was sent well: the object's finish is due
pub record DueFinish (line : RoundLine) (past after : BusPast) (object : ℕ) (frame : Frame) : Type 0 where
  pub started : Record
  pub sent : past.loaded ≡ Some (object, started)
  pub success : IsSuccess line past after 0 frame

-- another node's frame was sent well, and the controller is on: its receipt is due
pub record DueReceipt (line : RoundLine) (past after : BusPast) (winner : ℕ) (frame : Frame) : Type 0 where
  pub another : winner ≢ 0
  pub on : is_on past 0 ≡ true
  pub success : IsSuccess line past after winner frame

-- a frame was sent well, and the controller is off
pub record PassesBy (line : RoundLine) (past after : BusPast) (winner : ℕ) (frame : Frame) : Type 0 where
  pub off : is_on past 0 ≡ false
  pub success : IsSuccess line past after winner frame

-- the frames of the nodes that are on contend, with this decision
abbrev pub DecidesBetween : RoundLine → BusPast → BusPast → Decision → Type 0
DecidesBetween line past after decision.Idle = IsIdle line [] past after
DecidesBetween line past after decision.Collision = IsCollision line [] past after
DecidesBetween line past after (decision.Fault winner frame) = IsSpoiled line past after winner frame
DecidesBetween line past after (decision.NoAck winner frame) = IsUnheard line past after winner frame
DecidesBetween line past after (decision.Finish object frame) = DueFinish line past after object frame
DecidesBetween line past after (decision.Receipt winner frame) = DueReceipt line past after winner frame
DecidesBetween line past after (decision.Passed winner frame) = PassesBy line past after winner frame
DecidesBetween line past after (decision.LoopBack object frame) = ⊥

-- in loop back mode the loaded frame is sent: the object's finish is due, and then the receipt
pub record DueLoop (past after : BusPast) (object : ℕ) (frame : Frame) : Type 0 where
  pub started : Record
  pub loaded : past.loaded ≡ Some (object, started)
  pub frame_is : frame ≡ frame_of started
  pub happened : after ≡ sends_to_itself past

abbrev pub DecidesBack : BusPast → BusPast → Decision → Type 0
DecidesBack past after decision.Idle = IsLoopIdle [] past after
DecidesBack past after (decision.LoopBack object frame) = DueLoop past after object frame
DecidesBack past after decision.Collision = ⊥
DecidesBack past after (decision.Fault winner frame) = ⊥
DecidesBack past after (decision.NoAck winner frame) = ⊥
DecidesBack past after (decision.Finish object frame) = ⊥
DecidesBack past after (decision.Receipt winner frame) = ⊥
DecidesBack past after (decision.Passed winner frame) = ⊥

-- in loop back mode with the controller on, that mode's decision; else the decision between the frames
abbrev pub Decides : Bool → RoundLine → BusPast → BusPast → Decision → Type 0
Decides true line past after decided = DecidesBack past after decided
Decides false line past after decided = DecidesBetween line past after decided

-- the object that is to be finished is one of the profile
abbrev pub IsOf : Profile → Decision → Type 0
IsOf profile (decision.Finish object frame) = Holds profile object
IsOf profile (decision.LoopBack object frame) = Holds profile object
IsOf profile decided = Unit {0}

-- what a frame that was sent well calls for, as the bus finds it. Node 0 sends nothing if nothing is loaded
abbrev pub IsDue : Bus → ℕ → Frame → Decision → Type 0
IsDue bus winner frame (decision.Finish object sent) =
    (winner ≡ 0) × (sent ≡ frame) × (started : Record) × (bus.loaded ≡ Some (object, started))
IsDue bus winner frame (decision.Receipt node sent) =
    (winner ≢ 0) × (is_on_now bus 0 ≡ true) × (node ≡ winner) × (sent ≡ frame)
IsDue bus winner frame (decision.Passed node sent) = (is_on_now bus 0 ≡ false) × (node ≡ winner) × (sent ≡ frame)
IsDue bus winner frame decision.Idle = (winner ≡ 0) × (bus.loaded ≡ None)
IsDue bus winner frame decided = ⊥
