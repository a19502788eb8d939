-- A round of the bus, as what it adds to the past of the bus and to the history of the message RAM: a load, and then one
-- of the cases below, by the answer. Who is on is judged when the frames contend. Source: by the case, from CAN
-- Specification 2.0, "Fault Confinement" (the rules that are cited by number), and the C_CAN User's Manual 1.2, section 4.2
-- (message handling) and "Status Register" (TxOk, RxOk, LEC). That these make up one round,
-- and what a round leaves if a memory step is refused, are this project's own.
use Rattle.std.specs.Prelude.{ℕ, ◌≡◌, ◌≢◌, ◌==◌, Bool, true, false, List, [], ◌++◌, Option, Some, None, Result, Ok, Err, if◌then◌else◌}
use Rattle.ccan_object.specs.declared.record.Record.{Record}
use Rattle.ccan_accept.specs.declared.frame.Frame.{Frame}
use Rattle.ccan_ram.specs.declared.change.Change.TheVariants.{Finish, Store}
use Rattle.ccan_ram.specs.declared.change.Changed.{Changed}
use Rattle.ccan_ram.specs.declared.change.Changed.TheVariants.{Done}
use Rattle.ccan_ram.specs.declared.change.Refused.{Refused}
use Rattle.ccan_ram.specs.declared.change.Refused.TheVariants.{Busy, Spent}
use Rattle.ccan_ram.specs.declared.event.Event.{Event}
use Rattle.ccan_ram.specs.Terms.{Terms}
use Rattle.ccan_ram.specs.Attempt.{Attempt}
use Rattle.ccan_handler.specs.Scan.{Scan, ScanEnd, Nowhere, MadeAt, RefusedAt}
use Rattle.ccan_confine.specs.declared.bus_event.BusEvent.{BusEvent}
use Rattle.ccan_confine.specs.declared.bus_event.BusEvent.TheVariants.{Sent, Received, SendFault, SendNoAck, ReceiveFault}
use Rattle.ccan_confine.specs.declared.status_event.StatusEvent.TheVariants as status
use Rattle.ccan_bus.specs.declared.arbitration.Outcome.TheVariants.{Collision}
use Rattle.ccan_bus.specs.declared.round_line.RoundLine.{RoundLine}
use Rattle.ccan_bus.specs.declared.answer.LoadAnswer.{LoadAnswer}
use Rattle.ccan_bus.specs.declared.answer.LoadAnswer.TheVariants as load
use Rattle.ccan_bus.specs.declared.answer.RoundAnswer.{RoundAnswer}
use Rattle.ccan_bus.specs.declared.answer.RoundAnswer.TheVariants as answer
use Rattle.ccan_bus.specs.Arbitration.{Arbitrates}
use Rattle.ccan_bus.specs.RoundLine.{code_of}
use Rattle.ccan_bus.specs.Past.{BusPast, is_on, hears_itself, happens}
use Rattle.ccan_bus.specs.Contenders.{IsWonBy, contenders_of, frames_of, sends_least}
use Rattle.ccan_bus.specs.Load.{Loads}
use Rattle.ccan_bus.specs.LoopBack.{LoopsBack}

-- those who send have one event, the others another
abbrev pub shared : (ℕ → Bool) → BusEvent → BusEvent → ℕ → BusEvent
shared sends sending listening node = if sends node then sending else listening

abbrev pub is_node : ℕ → ℕ → Bool
is_node winner node = node == winner

-- Idle: nobody contends, and nothing happens. (own)
pub record IsIdle (line : RoundLine) (added : List Event) (past after : BusPast) : Type 0 where
  pub nobody : contenders_of past line ≡ []
  pub quiet : added ≡ []
  pub same : after ≡ past

-- Collision: two or more send the same least bits. Each of them has a fault as a sender and every other node one as a
-- receiver (rules 1 and 3). The last error code is bit 1 if the controller is among them, stuff
-- if it listens. (own: that they collide, and the codes)
pub record IsCollision (line : RoundLine) (added : List Event) (past after : BusPast) : Type 0 where
  pub outcome : Arbitrates (frames_of (contenders_of past line)) Collision
  pub quiet : added ≡ []
  pub happened :
      let collides = sends_least (contenders_of past line) in
      after ≡ happens (shared collides SendFault ReceiveFault) (status.Fault (if collides 0 then 4 else 1)) past

-- Fault: a fault spoils the winner's frame. The winner has a fault as a sender, every other node one as a receiver
-- (rules 1 and 3). The last error code is the fault's.
pub record IsFault (line : RoundLine) (added : List Event) (past after : BusPast) : Type 0 where
  pub winner : ℕ
  pub frame : Frame
  pub won : IsWonBy (contenders_of past line) winner frame
  pub code : ℕ
  pub fault : code_of line.fault ≡ Some code
  pub quiet : added ≡ []
  pub happened : after ≡ happens (shared (is_node winner) SendFault ReceiveFault) (status.Fault code) past

-- NoAck: no other node is on, so nobody acknowledges the winner's frame (rule 3 with its first exception).
-- The last error code is that of the acknowledgement.
pub record IsNoAck (line : RoundLine) (added : List Event) (past after : BusPast) : Type 0 where
  pub winner : ℕ
  pub frame : Frame
  pub won : IsWonBy (contenders_of past line) winner frame
  pub no_fault : code_of line.fault ≡ None
  pub alone : (node : ℕ) → is_on past node ≡ true → node ≡ winner
  pub quiet : added ≡ []
  pub happened : after ≡ happens (λ node. SendNoAck) (status.Fault 3) past

-- success: another node is on, and takes the winner's frame (rules 7 and 8). The controller has sent
-- or received, whether an object accepts the frame or not (manual, "Status Register").
pub record IsSuccess (line : RoundLine) (past after : BusPast) (winner : ℕ) (frame : Frame) : Type 0 where
  pub won : IsWonBy (contenders_of past line) winner frame
  pub no_fault : code_of line.fault ≡ None
  pub listener : ℕ
  pub another : listener ≢ winner
  pub listens : is_on past listener ≡ true
  pub happened :
      after ≡ happens (shared (is_node winner) Sent Received) (if winner == 0 then status.Sent else status.Received) past

-- the controller has sent what was loaded, and its object is finished like this (manual, section 4.2)
pub record IsFinish (terms : Terms) (line : RoundLine) (tries : ℕ) (seen added : List Event) (past after : BusPast) (object : ℕ)
    (outcome : Result Changed Refused) : Type 0 where
  pub started : Record
  pub frame : Frame
  pub sent : past.loaded ≡ Some (object, started)
  pub success : IsSuccess line past after 0 frame
  pub finish : Attempt terms object Finish tries seen added outcome

-- Sent: the object's record is that after the finish
pub record IsSent (terms : Terms) (line : RoundLine) (tries : ℕ) (seen added : List Event) (past after : BusPast) (object : ℕ)
    (finished : Record) : Type 0 where
  pub before : Record
  pub number : ℕ
  pub finish : IsFinish terms line tries seen added past after object (Ok (Done before finished number))

-- another node has sent, the controller is on, and its scan for an object that accepts the frame ends like this (manual,
-- section 4.2)
pub record IsReceipt (terms : Terms) (line : RoundLine) (tries : ℕ) (seen added : List Event) (past after : BusPast)
    (end : ScanEnd) : Type 0 where
  pub winner : ℕ
  pub frame : Frame
  pub another : winner ≢ 0
  pub on : is_on past 0 ≡ true
  pub success : IsSuccess line past after winner frame
  pub scan : Scan terms (Store frame) 1 tries seen added end

-- Received: at an object, with its record after the store, or at none
abbrev pub Receives : Terms → RoundLine → ℕ → List Event → List Event → BusPast → BusPast → Option (ℕ × Record) → Type 0
Receives terms line tries seen added past after None = IsReceipt terms line tries seen added past after Nowhere
Receives terms line tries seen added past after (Some found) =
    (before : Record) × (number : ℕ)
    × IsReceipt terms line tries seen added past after (MadeAt found.0 before found.1 number)

-- Passed: another node has sent, and the controller is off
pub record IsPassing (line : RoundLine) (added : List Event) (past after : BusPast) : Type 0 where
  pub winner : ℕ
  pub frame : Frame
  pub off : is_on past 0 ≡ false
  pub success : IsSuccess line past after winner frame
  pub quiet : added ≡ []

-- Busy or Spent: the finish or the scan of a success is refused, and all else remains. (own)
pub data IsRefused (terms : Terms) (line : RoundLine) (tries : ℕ) (seen added : List Event) (past after : BusPast) (object : ℕ)
    (why : Refused) : Type 0 where
  RefusedFinish : IsFinish terms line tries seen added past after object (Err why)
      → IsRefused terms line tries seen added past after object why
  RefusedScan : IsReceipt terms line tries seen added past after (RefusedAt object why)
      → IsRefused terms line tries seen added past after object why

-- the frames of the nodes that are on contend, with this answer
abbrev pub Contends : Terms → RoundLine → ℕ → List Event → List Event → BusPast → BusPast → RoundAnswer → Type 0
Contends terms line tries seen added past after answer.Idle = IsIdle line added past after
Contends terms line tries seen added past after (answer.Sent object finished) =
    IsSent terms line tries seen added past after object finished
Contends terms line tries seen added past after (answer.Received found) =
    Receives terms line tries seen added past after found
Contends terms line tries seen added past after answer.Passed = IsPassing line added past after
Contends terms line tries seen added past after answer.Collision = IsCollision line added past after
Contends terms line tries seen added past after answer.NoAck = IsNoAck line added past after
Contends terms line tries seen added past after answer.Fault = IsFault line added past after
Contends terms line tries seen added past after (answer.Looped _ _ _) = ⊥
Contends terms line tries seen added past after (answer.Busy object) =
    (told : ℕ) × (now : ℕ) × IsRefused terms line tries seen added past after object (Busy told now)
Contends terms line tries seen added past after (answer.Spent object) =
    IsRefused terms line tries seen added past after object Spent

-- ---- the round

-- what follows the load: in loop back mode with the controller on that mode's transfer, else the frames contend
abbrev pub Transfers : Bool → Terms → RoundLine → ℕ → List Event → List Event → BusPast → BusPast → RoundAnswer → Type 0
Transfers true terms line tries seen added past after reply = LoopsBack terms tries seen added past after reply
Transfers false terms line tries seen added past after reply = Contends terms line tries seen added past after reply

-- the answer of a round whose load was refused; there is none if it was not
abbrev pub refusal_of_round : LoadAnswer → Option RoundAnswer
refusal_of_round (load.Busy object) = Some (answer.Busy object)
refusal_of_round (load.Spent object) = Some (answer.Spent object)
refusal_of_round (load.Loaded object started) = None
refusal_of_round (load.Held object) = None
refusal_of_round load.Nothing = None

-- the load was refused: that is all, and the round answers as the load did. (own)
pub record EndsRefused (refusal : RoundAnswer) (added : List Event) (past after : BusPast) (reply : RoundAnswer) : Type 0 where
  pub told : reply ≡ refusal
  pub quiet : added ≡ []
  pub same : after ≡ past

abbrev pub Continues : Option RoundAnswer → Terms → RoundLine → ℕ → List Event → List Event → BusPast → BusPast → RoundAnswer
    → Type 0
Continues (Some refusal) terms line tries seen added past after reply = EndsRefused refusal added past after reply
Continues None terms line tries seen added past after reply =
    Transfers (hears_itself past) terms line tries seen added past after reply

-- a round: a load, and what follows it
pub record Round (terms : Terms) (line : RoundLine) (tries : ℕ) (seen added : List Event) (past after : BusPast)
    (reply : RoundAnswer) : Type 0 where
  pub between : BusPast
  pub loading : LoadAnswer
  pub first : List Event
  pub last : List Event
  pub whole : added ≡ last ++ first
  pub loads : Loads terms tries seen first past between loading
  pub continues : Continues (refusal_of_round loading) terms line tries (first ++ seen) last between after reply
