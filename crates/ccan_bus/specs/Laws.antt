-- Laws of arbitration and of rounds, in the words of CAN Specification 2.0, part B ("Arbitration", "Arbitration Field",
-- "Fault Confinement"); those of loads and of loop back mode are this project's own. They hold of every memory that meets
-- `Access`.
use Rattle.std.specs.Prelude.{ℕ, ◌≡◌, ◌≢◌, ◌<◌, ◌≤◌, ◌+◌, ◌/◌, ◌^◌, ◌⊎◌, ◌↔◌, Bool, true, false, IsTrue, List, ◌∷◌, ◌++◌, Option, Some, None, Ok, slice_get, if◌then◌else◌}
use Rattle.std.specs.List.{All}
use Rattle.ccan_object.specs.declared.record.Record.{Record}
use Rattle.ccan_accept.specs.declared.frame.Frame.{Frame}
use Rattle.ccan_accept.specs.Frame.{IsFrame}
use Rattle.ccan_accept.specs.Send.{frame_of}
use Rattle.ccan_ram.specs.declared.change.Change.TheVariants.{Start, Store, Finish}
use Rattle.ccan_ram.specs.declared.sending.Sending.TheVariants.{UntilSent}
use Rattle.ccan_ram.specs.declared.change.Changed.TheVariants.{Done}
use Rattle.ccan_ram.specs.declared.event.Event.{Event}
use Rattle.ccan_ram.specs.Change.{fits}
use Rattle.ccan_ram.specs.History.{record_at}
use Rattle.ccan_ram.specs.Terms.{Terms}
use Rattle.ccan_ram.specs.Attempt.{Attempt}
use Rattle.ccan_handler.specs.Moment.{AtOneMoment, IsWithdrawn}
use Rattle.ccan_handler.specs.Scan.{Scan, Nowhere, MadeAt}
use Rattle.ccan_confine.specs.declared.bus_event.BusEvent.{BusEvent}
use Rattle.ccan_confine.specs.declared.bus_event.BusEvent.TheVariants.{Sent}
use Rattle.ccan_confine.specs.Counters.{Bus}
use Rattle.ccan_confine.specs.Status.{StatusStep}
use Rattle.ccan_bus.specs.declared.arbitration.Outcome.TheVariants.{Winner}
use Rattle.ccan_bus.specs.declared.round_line.RoundLine.{RoundLine}
use Rattle.ccan_bus.specs.declared.answer.LoadAnswer.{LoadAnswer}
use Rattle.ccan_bus.specs.declared.answer.LoadAnswer.TheVariants as load
use Rattle.ccan_bus.specs.declared.answer.RoundAnswer.{RoundAnswer}
use Rattle.ccan_bus.specs.declared.answer.RoundAnswer.TheVariants as answer
use Rattle.ccan_bus.specs.declared.choice.Choice.{Choice}
use Rattle.ccan_bus.specs.declared.choice.Choice.TheVariants.{AtOnce}
use Rattle.ccan_bus.specs.declared.decision.Decision.{Decision}
use Rattle.ccan_bus.specs.declared.decision.Decision.TheVariants as decision
use Rattle.ccan_bus.specs.declared.round_report.RoundReport.{RoundReport}
use Rattle.ccan_bus.specs.Arbitration.{arbitration_bits, precedes, Arbitrates}
use Rattle.ccan_bus.specs.Past.{BusPast, is_on, hears_itself, opened_with, clears_init, recovers}
use Rattle.ccan_bus.specs.Contenders.{IsWonBy, contenders_of}
use Rattle.ccan_bus.specs.Load.{Loads}
use Rattle.ccan_bus.specs.Round.{Round, refusal_of_round}
use Rattle.ccan_bus.specs.Decide.{Decides}
use Rattle.ccan_bus.specs.RoundReport.{RunsSteps}

-- ---- arbitration

-- the first frame wins over the second
abbrev pub Beats : Frame → Frame → Type 0
Beats first second = IsTrue (precedes (arbitration_bits first) (arbitration_bits second))

-- a data frame wins over the remote frame with the same identifier
abbrev pub DataBeatsRemote : Type 0
DataBeatsRemote =
    (data_frame remote : Frame) → data_frame.xtd ≡ remote.xtd → data_frame.id ≡ remote.id
    → data_frame.rtr ≡ false → remote.rtr ≡ true → Beats data_frame remote

-- a standard frame wins over each extended one with the same upper part of the identifier, whatever kinds they are
abbrev pub StandardBeatsExtended : Type 0
StandardBeatsExtended =
    (standard extended : Frame) → standard.xtd ≡ false → extended.xtd ≡ true
    → standard.id ≡ extended.id / 2 ^ 18 → Beats standard extended

-- the upper eleven bits of a frame's identifier
abbrev pub upper_part : Frame → ℕ
upper_part f = if f.xtd then f.id / 2 ^ 18 else f.id

-- the upper part of the winner's identifier is no greater than any other's
abbrev pub LeastUpperPartWins : Type 0
LeastUpperPartWins =
    (frames : List Frame) (place other : ℕ) (winner loser : Frame)
    → Arbitrates frames (Winner place) → slice_get frames place ≡ Some winner → slice_get frames other ≡ Some loser
    → IsFrame winner → IsFrame loser → upper_part winner ≤ upper_part loser

-- ---- rounds

-- between the two the node had this bus event
abbrev pub HasEvent : BusPast → BusPast → ℕ → BusEvent → Type 0
HasEvent past after node event = after.events node ≡ Bus event ∷ past.events node

-- in every round at most one node sends its frame well
abbrev pub AtMostOneSends : Type 0
AtMostOneSends =
    (terms : Terms) (line : RoundLine) (tries : ℕ) (seen added : List Event) (past after : BusPast) (reply : RoundAnswer)
    → Round terms line tries seen added past after reply
    → (one another : ℕ) → HasEvent past after one Sent → HasEvent past after another Sent → one ≡ another

abbrev pub SomeoneSends : BusPast → BusPast → Type 0
SomeoneSends past after = (node : ℕ) × HasEvent past after node Sent

-- a frame was sent well: the answer says so, or a memory step was refused, which comes only after a success
abbrev pub ends_well : RoundAnswer → Bool
ends_well (answer.Sent object finished) = true
ends_well (answer.Received found) = true
ends_well answer.Passed = true
ends_well (answer.Looped object finished found) = true
ends_well (answer.Busy object) = true
ends_well (answer.Spent object) = true
ends_well answer.Idle = false
ends_well answer.Collision = false
ends_well answer.NoAck = false
ends_well answer.Fault = false

-- but not if it was the load that was refused
abbrev pub sends_well : Option RoundAnswer → RoundAnswer → Bool
sends_well (Some refusal) reply = false
sends_well None reply = ends_well reply

-- one does exactly if the answer is Sent, Received, Passed or Looped, or a memory step was refused after that success
abbrev pub OneSendsExactlyOnSuccess : Type 0
OneSendsExactlyOnSuccess =
    (terms : Terms) (line : RoundLine) (tries : ℕ) (seen added : List Event) (past after : BusPast) (reply : RoundAnswer)
    → (round : Round terms line tries seen added past after reply)
    → SomeoneSends past after ↔ IsTrue (sends_well (refusal_of_round round.loading) reply)

-- a node that is off has no bus event
abbrev pub OffNodesHaveNoEvent : Type 0
OffNodesHaveNoEvent =
    (terms : Terms) (line : RoundLine) (tries : ℕ) (seen added : List Event) (past after : BusPast) (reply : RoundAnswer)
    → Round terms line tries seen added past after reply
    → (node : ℕ) → is_on past node ≡ false → after.events node ≡ past.events node

-- a later round that is answered Sent sends what was loaded, whatever was written in between
abbrev pub SendsWhatWasLoaded : Type 0
SendsWhatWasLoaded =
    (terms : Terms) (line : RoundLine) (tries : ℕ) (earlier loading seen added : List Event)
    (before loaded past after : BusPast) (object place : ℕ) (started finished : Record)
    → Loads terms tries earlier loading before loaded (load.Loaded object started) → past.loaded ≡ loaded.loaded
    → Round terms line tries seen added past after (answer.Sent place finished)
    → (place ≡ object) × IsWonBy (contenders_of past line) 0 (frame_of started)

-- what the controller sends among these is this frame
abbrev pub OwnFramesAre : Frame → List (ℕ × Frame) → Type 0
OwnFramesAre own contenders = All (λ (c : ℕ × Frame). c.0 ≡ 0 → c.1 ≡ own) contenders

-- if the controller's frame won the bus, it is this one, of this object: it was sent well, in loop back mode too, or a
-- fault spoiled it, or nobody acknowledged it
abbrev pub IsOfTheLoad : ℕ → Frame → Decision → Type 0
IsOfTheLoad object own (decision.Finish place frame) = (place ≡ object) × (frame ≡ own)
IsOfTheLoad object own (decision.LoopBack place frame) = (place ≡ object) × (frame ≡ own)
IsOfTheLoad object own (decision.Fault winner frame) = winner ≡ 0 → frame ≡ own
IsOfTheLoad object own (decision.NoAck winner frame) = winner ≡ 0 → frame ≡ own
IsOfTheLoad object own (decision.Receipt winner frame) = winner ≢ 0
IsOfTheLoad object own (decision.Passed winner frame) = winner ≡ 0 → frame ≡ own
IsOfTheLoad object own decision.Collision = Unit {0}
IsOfTheLoad object own decision.Idle = Unit {0}

-- whatever a later round comes to, collisions and refused memory steps too: what the controller sends in it is what was
-- loaded
abbrev pub EachRoundSendsWhatWasLoaded : Type 0
EachRoundSendsWhatWasLoaded =
    (terms : Terms) (line : RoundLine) (tries : ℕ) (earlier loading seen added : List Event)
    (before loaded past after : BusPast) (object : ℕ) (started : Record) (report : RoundReport)
    → Loads terms tries earlier loading before loaded (load.Loaded object started) → past.loaded ≡ loaded.loaded
    → RunsSteps terms line tries seen added past after report
    → OwnFramesAre (frame_of started) (contenders_of past line)
    × ((decided : Decision) → report.decision ≡ Some decided → IsOfTheLoad object (frame_of started) decided)

-- a scan for an object that accepts this frame ends as reported: at the object that stored it, or nowhere
abbrev pub ScansAsTold : Terms → ℕ → Frame → List Event → List Event → Option (ℕ × Record) → Type 0
ScansAsTold terms tries frame seen added None = Scan terms (Store frame) 1 tries seen added Nowhere
ScansAsTold terms tries frame seen added (Some found) =
    (before : Record) × (number : ℕ) × Scan terms (Store frame) 1 tries seen added (MadeAt found.0 before found.1 number)

-- all that is added is the finish of an object, and then such a scan
pub record IsFinishAndScan (terms : Terms) (tries object : ℕ) (finished : Record) (frame : Frame) (seen added : List Event)
    (found : Option (ℕ × Record)) : Type 0 where
  pub first : List Event
  pub last : List Event
  pub whole : added ≡ last ++ first
  pub before : Record
  pub number : ℕ
  pub finish : Attempt terms object Finish tries seen first (Ok (Done before finished number))
  pub scan : ScansAsTold terms tries frame (first ++ seen) last found

-- and what a later round in loop back mode sends and receives: all its events are the finish of what was loaded and the scan
-- for that frame, which ends as the round answers
abbrev pub LoopsWhatWasLoaded : Type 0
LoopsWhatWasLoaded =
    (terms : Terms) (line : RoundLine) (tries : ℕ) (earlier loading seen added : List Event)
    (before loaded past after : BusPast) (object place : ℕ) (started finished : Record) (found : Option (ℕ × Record))
    → Loads terms tries earlier loading before loaded (load.Loaded object started) → past.loaded ≡ loaded.loaded
    → Round terms line tries seen added past after (answer.Looped place finished found)
    → (place ≡ object) × IsFinishAndScan terms tries object finished (frame_of started) seen added found

-- what is loaded by a choice at one moment was ready then, and no object before it was, except those that are no longer ready
abbrev pub LoadsAreOfOneMoment : Type 0
LoadsAreOfOneMoment =
    (terms : Terms) (tries object : ℕ) (started : Record) (seen added : List Event) (past after : BusPast)
    → past.choice ≡ AtOnce → Loads terms tries seen added past after (load.Loaded object started)
    → AtOneMoment seen added (λ h. (fits Start (record_at object h) ≡ true)
    × ((k : ℕ) → k + 1 < object
    → (fits Start (record_at (k + 1) h) ≡ false) ⊎ IsWithdrawn terms UntilSent tries (k + 1) seen added))

-- nothing is loaded after a round that wasn't idle
abbrev pub NothingIsLoadedAfterwards : Type 0
NothingIsLoadedAfterwards =
    (terms : Terms) (line : RoundLine) (tries : ℕ) (seen added : List Event) (past after : BusPast) (reply : RoundAnswer)
    → Round terms line tries seen added past after reply → reply ≢ answer.Idle → after.loaded ≡ None

-- a load that is refused leaves the error counters, the Status register and all else as they were
abbrev pub RefusedLoadsLeaveAll : Type 0
RefusedLoadsLeaveAll =
    (terms : Terms) (line : RoundLine) (tries : ℕ) (seen added : List Event) (past after : BusPast) (reply refusal : RoundAnswer)
    → (round : Round terms line tries seen added past after reply)
    → refusal_of_round round.loading ≡ Some refusal → (after ≡ past) × (reply ≡ refusal)

-- in loop back mode with the controller on, no other node has an event
abbrev pub OthersRestInLoopBack : Type 0
OthersRestInLoopBack =
    (terms : Terms) (line : RoundLine) (tries : ℕ) (seen added : List Event) (past after : BusPast) (reply : RoundAnswer)
    → Round terms line tries seen added past after reply → hears_itself past ≡ true
    → (node : ℕ) → node ≢ 0 → after.events node ≡ past.events node

-- and what the line says is disregarded
abbrev pub LinesAreUnheardInLoopBack : Type 0
LinesAreUnheardInLoopBack =
    (terms : Terms) (line other : RoundLine) (tries : ℕ) (seen added : List Event) (past after : BusPast) (reply : RoundAnswer)
    → hears_itself past ≡ true
    → Round terms line tries seen added past after reply → Round terms other tries seen added past after reply

-- ---- a controller that is off

-- if the controller is off, nothing is loaded
abbrev pub RestsOff : BusPast → Type 0
RestsOff past = is_on past 0 ≡ false → past.loaded ≡ None

-- it is so when a bus opens, and each call leaves it so: a load, a round, the decision of a round, the clearing of Init,
-- recessive groups; and what changes only the Status register or the mode
pub record OffControllersHoldNothing : Type 0 where
  pub opened : (choice : Choice) (others : ℕ) → RestsOff (opened_with choice others)
  pub loads : (terms : Terms) (tries : ℕ) (seen added : List Event) (past after : BusPast) (told : LoadAnswer)
      → Loads terms tries seen added past after told → RestsOff past → RestsOff after
  pub rounds : (terms : Terms) (line : RoundLine) (tries : ℕ) (seen added : List Event) (past after : BusPast)
      (reply : RoundAnswer)
      → Round terms line tries seen added past after reply → RestsOff past → RestsOff after
  pub decides : (line : RoundLine) (past after : BusPast) (decided : Decision)
      → Decides (hears_itself past) line past after decided → RestsOff past → RestsOff after
  pub clears : (past : BusPast) → RestsOff past → RestsOff (clears_init past)
  pub recovers : (groups : ℕ) (past : BusPast) → RestsOff past → RestsOff (recovers groups past)
  pub notes : (steps : List StatusStep) (past : BusPast) → RestsOff past → RestsOff (record past { steps = steps })
  pub sets : (loops : Bool) (past : BusPast) → RestsOff past → RestsOff (record past { loops_back = loops })
