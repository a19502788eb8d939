-- A round in loop back mode, once its load is made, with the controller on: the controller sends to itself, and treats its
-- own frame as received. It ignores acknowledge errors, and what other nodes send. Source: C_CAN User's Manual 1.2, "Loop
-- Back Mode"; that the other nodes rest, that the controller has only the bus event Sent, and that the frame is received
-- after the finish, are this project's own.
use Rattle.std.specs.Prelude.{ℕ, ◌≡◌, List, [], ◌++◌, Option, Some, None, Result, Ok, Err}
use Rattle.ccan_object.specs.declared.record.Record.{Record}
use Rattle.ccan_accept.specs.declared.frame.Frame.{Frame}
use Rattle.ccan_accept.specs.Send.{frame_of}
use Rattle.ccan_ram.specs.declared.change.Change.TheVariants.{Finish, Store}
use Rattle.ccan_ram.specs.declared.change.Changed.{Changed}
use Rattle.ccan_ram.specs.declared.change.Changed.TheVariants.{Done}
use Rattle.ccan_ram.specs.declared.change.Refused.{Refused}
use Rattle.ccan_ram.specs.declared.change.Refused.TheVariants.{Busy, Spent}
use Rattle.ccan_ram.specs.declared.event.Event.{Event}
use Rattle.ccan_ram.specs.Terms.{Terms}
use Rattle.ccan_ram.specs.Attempt.{Attempt}
use Rattle.ccan_handler.specs.Scan.{Scan, ScanEnd, Nowhere, MadeAt, RefusedAt}
use Rattle.ccan_bus.specs.declared.answer.RoundAnswer.{RoundAnswer}
use Rattle.ccan_bus.specs.declared.answer.RoundAnswer.TheVariants as answer
use Rattle.ccan_bus.specs.Past.{BusPast, sends_to_itself}

-- Idle: nothing is loaded, and nothing happens
pub record IsLoopIdle (added : List Event) (past after : BusPast) : Type 0 where
  pub empty : past.loaded ≡ None
  pub quiet : added ≡ []
  pub same : after ≡ past

-- the loaded frame is sent, and its object is finished with this outcome
pub record IsLoopFinish (terms : Terms) (tries : ℕ) (seen added : List Event) (past after : BusPast) (object : ℕ) (frame : Frame)
    (outcome : Result Changed Refused) : Type 0 where
  pub started : Record
  pub loaded : past.loaded ≡ Some (object, started)
  pub frame_is : frame ≡ frame_of started
  pub happened : after ≡ sends_to_itself past
  pub finish : Attempt terms object Finish tries seen added outcome

-- then the controller's scan for an object that accepts its own frame ends like this
pub record IsLoop (terms : Terms) (tries : ℕ) (seen added : List Event) (past after : BusPast) (object : ℕ) (finished : Record)
    (end : ScanEnd) : Type 0 where
  pub frame : Frame
  pub before : Record
  pub number : ℕ
  pub first : List Event
  pub last : List Event
  pub whole : added ≡ last ++ first
  pub finish : IsLoopFinish terms tries seen first past after object frame (Ok (Done before finished number))
  pub scan : Scan terms (Store frame) 1 tries (first ++ seen) last end

-- Looped: with the object that stored the frame and its record after the store, or with none
abbrev pub Loops : Terms → ℕ → List Event → List Event → BusPast → BusPast → ℕ → Record → Option (ℕ × Record) → Type 0
Loops terms tries seen added past after object finished None = IsLoop terms tries seen added past after object finished Nowhere
Loops terms tries seen added past after object finished (Some found) =
    (before : Record) × (number : ℕ)
    × IsLoop terms tries seen added past after object finished (MadeAt found.0 before found.1 number)

-- Busy or Spent: the finish is refused and makes no scan, or the scan is refused and the finish remains
pub data IsLoopRefused (terms : Terms) (tries : ℕ) (seen added : List Event) (past after : BusPast) (at : ℕ)
    (why : Refused) : Type 0 where
  AtFinish : (frame : Frame) → IsLoopFinish terms tries seen added past after at frame (Err why)
      → IsLoopRefused terms tries seen added past after at why
  AtScan : (object : ℕ) (finished : Record) → IsLoop terms tries seen added past after object finished (RefusedAt at why)
      → IsLoopRefused terms tries seen added past after at why

abbrev pub LoopsBack : Terms → ℕ → List Event → List Event → BusPast → BusPast → RoundAnswer → Type 0
LoopsBack terms tries seen added past after answer.Idle = IsLoopIdle added past after
LoopsBack terms tries seen added past after (answer.Looped object finished found) =
    Loops terms tries seen added past after object finished found
LoopsBack terms tries seen added past after (answer.Busy at) =
    (told : ℕ) × (now : ℕ) × IsLoopRefused terms tries seen added past after at (Busy told now)
LoopsBack terms tries seen added past after (answer.Spent at) = IsLoopRefused terms tries seen added past after at Spent
LoopsBack terms tries seen added past after (answer.Sent _ _) = ⊥
LoopsBack terms tries seen added past after (answer.Received _) = ⊥
LoopsBack terms tries seen added past after answer.Passed = ⊥
LoopsBack terms tries seen added past after answer.Collision = ⊥
LoopsBack terms tries seen added past after answer.NoAck = ⊥
LoopsBack terms tries seen added past after answer.Fault = ⊥
