-- What the answers of a run without an order say, as steps of one history: whose step it is, at which object, what
-- it did, what it found and what it left. Source: C_CAN User's Manual 1.2, section 4.2.1 for what a transfer moves,
-- and section 3.4 for the Interrupt Register and the flags of all objects; that each answer is of its line and has steps
-- of its own, in its port's order, is this project's own.
use Rattle.std.specs.Prelude.{ℕ, ◌≡◌, ◌<◌, ◌-◌, ◌⊎◌, Bool, true, false, if◌then◌else◌}
use Rattle.std.specs.Prelude.{List, [], ◌∷◌, ◌++◌, length, All, Contains, None, Some}
use Rattle.ccan_object.specs.declared.profile.Profile.{Profile}
use Rattle.ccan_object.specs.declared.record.Record.{Record}
use Rattle.ccan_object.specs.declared.command.CommandMask.{CommandMask}
use Rattle.ccan_object.specs.Bits.{bit}
use Rattle.ccan_object.specs.Command.{is_pure_read}
use Rattle.ccan_object.specs.Group.{by_groups}
use Rattle.ccan_object.specs.Interface.{Registers, zero_registers}
use Rattle.ccan_object.specs.Number.{requested}
use Rattle.ccan_object.specs.Profile.{Holds}
use Rattle.ccan_accept.specs.declared.frame.Frame.{Frame}
use Rattle.ccan_accept.specs.Send.{frame_of}
use Rattle.ccan_ram.specs.declared.port.PortName.{PortName}
use Rattle.ccan_ram.specs.declared.port.PortName.TheVariants.{If1, If2, Bus}
use Rattle.ccan_ram.specs.declared.change.Change.{Change}
use Rattle.ccan_ram.specs.declared.change.Change.TheVariants as change
use Rattle.ccan_ram.specs.declared.event.Event.{Event}
use Rattle.ccan_ram.specs.declared.event.Operation.{Operation}
use Rattle.ccan_ram.specs.declared.event.Operation.TheVariants.{Look, Make}
use Rattle.ccan_ram.specs.declared.flag.Flag.{Flag}
use Rattle.ccan_ram.specs.declared.flag.Flag.TheVariants.{IntPnd}
use Rattle.ccan_ram.specs.Flags.{flag_of}
use Rattle.ccan_ram.specs.Port.{same_port}
use Rattle.ccan_ram.specs.History.{IsLegal, changes_by, events_of}
use Rattle.ccan_ram.specs.Ending.{final_records}
use Rattle.ccan_bus.specs.declared.answer.LoadAnswer.TheVariants as load
use Rattle.ccan_bus.specs.declared.answer.RoundAnswer.{RoundAnswer}
use Rattle.ccan_bus.specs.declared.answer.RoundAnswer.TheVariants as round
use Rattle.ccan_line.specs.declared.bus_line.BusLine.{BusLine}
use Rattle.ccan_line.specs.declared.bus_line.BusLine.TheVariants as bus
use Rattle.ccan_line.specs.declared.host_line.HostLine.{HostLine}
use Rattle.ccan_line.specs.declared.host_line.HostLine.TheVariants as host
use Rattle.ccan_line.specs.declared.line_answer.LineAnswer.{LineAnswer}
use Rattle.ccan_line.specs.declared.line_answer.LineAnswer.TheVariants as answer
use Rattle.ccan_bus.specs.Past.{BusPast}
use Rattle.ccan_line.specs.ControllerLine.{controller_end}
use Rattle.ccan_line.specs.Script.{ScriptFields}
use Rattle.ccan_run.specs.declared.outcome.Outcome.{Outcome}
use Rattle.ccan_line.specs.Transfer.{with_settings}

-- a step of the port at the object is among these, which did this, found the one record and left the other
abbrev pub HasStep : PortName → ℕ → Operation → Record → Record → List Event → Type 0
HasStep port object operation before after events =
    Contains events
    (record { port = port; object = object; operation = operation; before = before; after = after })

-- ---- looks

-- a look at the object showed this value of the flag
abbrev pub FlagWasShown : PortName → ℕ → Flag → Bool → List Event → Type 0
FlagWasShown port object flag is events =
    (shown : Record) × HasStep port object Look shown shown events × (flag_of flag shown ≡ is)

-- the event is a look at the object, which found the flag unset
pub record FindsUnset (object : ℕ) (flag : Flag) (event : Event) : Type 0 where
  pub object_is : event.object ≡ object
  pub looks : event.operation ≡ Look
  pub unset : flag_of flag event.before ≡ false

-- the port did nothing but look at the object, as often as it had turns, and no look showed the flag. A line of a script
-- has one turn at least, so there is such a look
pub record WasNeverShown (port : PortName) (object : ℕ) (flag : Flag) (turns : ℕ) (events : List Event) : Type 0 where
  pub each : All (FindsUnset object flag) (events_of port events)
  pub counted : length (events_of port events) ≡ turns

-- the value is the number of the lowest object that showed the flag: a look at it showed the flag, and of each object
-- below it a look did not; or the value is 0, and of each object a look did not
abbrev pub NamesLowest : PortName → Profile → Flag → ℕ → List Event → Type 0
NamesLowest port profile flag value events =
    ((value ≡ 0) × ((object : ℕ) → Holds profile object → FlagWasShown port object flag false events))
    ⊎ (Holds profile value × FlagWasShown port value flag true events
    × ((object : ℕ) → Holds profile object → object < value → FlagWasShown port object flag false events))

-- the interrupt value names the lowest object that showed IntPnd
abbrev pub NamesPending : PortName → Profile → ℕ → List Event → Type 0
NamesPending port profile value events = NamesLowest port profile IntPnd value events

-- bit k - 1 of the word is the flag of object k, as a look at it showed it
abbrev pub WordWasShown : PortName → Profile → Flag → ℕ → List Event → Type 0
WordWasShown port profile flag word events =
    (object : ℕ) → Holds profile object → FlagWasShown port object flag (bit word (object - 1)) events

-- ---- hosts

-- a write: the object was written with what the registers held, which left this record
abbrev pub WasWritten : PortName → Registers → ℕ → Record → List Event → Type 0
WasWritten port registers object left events =
    (before : Record) × HasStep port object (Make (change.Write registers.command registers.buffer)) before left events

-- a read that clears nothing is a look
abbrev pub reading : CommandMask → Operation
reading command = if is_pure_read command then Look else Make (change.Clear command)

-- a read: the selected groups are those of the record that it found, the others as the registers held them
pub record WasRead (port : PortName) (registers : Registers) (object : ℕ) (shown : Record)
    (events : List Event) : Type 0 where
  pub before : Record
  pub after : Record
  pub step : HasStep port object (reading registers.command) before after events
  pub shows : shown ≡ by_groups registers.command before registers.buffer

-- how many turns a line has to wait
abbrev pub turns_of : HostLine → ℕ
turns_of (host.Until object flag turns) = turns
turns_of line = 0

-- these steps show the answer to this line of a host whose registers were set so. An answer that is not named here
-- reports no transfer that was made, and no flag that was looked for
abbrev pub HostShownBy : Profile → PortName → HostLine → Registers → LineAnswer → List Event → Type 0
HostShownBy profile port line registers (answer.Write object left) events = WasWritten port registers object left events
HostShownBy profile port line registers (answer.Read object shown) events = WasRead port registers object shown events
HostShownBy profile port line registers (answer.Until object flag true) events = FlagWasShown port object flag true events
HostShownBy profile port line registers (answer.Until object flag false) events =
    WasNeverShown port object flag (turns_of line) events
HostShownBy profile port line registers (answer.Interrupt value) events = NamesPending port profile value events
HostShownBy profile port line registers (answer.Flags flag word objects) events = WordWasShown port objects flag word events
HostShownBy profile port line registers reply events = Unit {0}

-- how many changes the answer reports
abbrev pub changes_told : Registers → LineAnswer → ℕ
changes_told registers (answer.Write object left) = 1
changes_told registers (answer.Read object shown) = if is_pure_read registers.command then 0 else 1
changes_told registers reply = 0

-- a part of the history in which this line of a host was run: its steps show the answer, and the host made no changes in
-- it other than those that the answer reports
pub record IsHostPart (profile : Profile) (port : PortName) (line : HostLine) (registers : Registers)
    (reply : LineAnswer) (events : List Event) : Type 0 where
  pub shown : HostShownBy profile port line registers reply events
  pub changes : changes_by port events ≡ changes_told registers reply

-- an answer to a transfer of this object
abbrev pub IsOfTransfer : ℕ → LineAnswer → Type 0
IsOfTransfer object (answer.Write at left) = at ≡ object
IsOfTransfer object (answer.Read at shown) = at ≡ object
IsOfTransfer object (answer.Busy at) = at ≡ object
IsOfTransfer object (answer.Spent at) = at ≡ object
IsOfTransfer object reply = ⊥

-- the answer is of the line's kind, and of the object and the flag that the line names
abbrev pub IsReplyTo : Profile → HostLine → LineAnswer → Type 0
IsReplyTo profile (host.Transfer request set) reply = IsOfTransfer (requested profile request) reply
IsReplyTo profile (host.Until object flag turns) (answer.Until at of shown) = (at ≡ object) × (of ≡ flag)
IsReplyTo profile host.Interrupt (answer.Interrupt value) = Unit {0}
IsReplyTo profile (host.Flags flag) (answer.Flags of word objects) = (of ≡ flag) × (objects ≡ profile)
IsReplyTo profile line reply = ⊥

-- the registers as a line sets them
abbrev pub registers_set : HostLine → Registers → Registers
registers_set (host.Transfer request set) registers = with_settings set.items registers
registers_set line registers = registers

-- the registers after the answer: a transfer that was made answers what their buffer then shows
abbrev pub registers_after : LineAnswer → Registers → Registers
registers_after (answer.Write object shown) registers = record registers { buffer = shown }
registers_after (answer.Read object shown) registers = record registers { buffer = shown }
registers_after reply registers = registers

-- each line has an answer and a part of the history, after those of the lines before it, and the port has no step
-- after the part of its last line. A history has its newest event in front
abbrev pub HostInOrder : Profile → PortName → List HostLine → Registers → List LineAnswer → List Event → Type 0
HostInOrder profile port [] registers [] history = events_of port history ≡ []
HostInOrder profile port (line ∷ lines) registers (reply ∷ replies) history =
    let set = registers_set line registers in
    (later : List Event) × (first : List Event) × (history ≡ later ++ first)
    × IsReplyTo profile line reply × IsHostPart profile port line set reply first
    × HostInOrder profile port lines (registers_after reply set) replies later
HostInOrder profile port lines registers replies history = ⊥

-- ---- the bus

-- a change of the bus at the object, which left this record
abbrev pub WasChanged : ℕ → Change → Record → List Event → Type 0
WasChanged object change left events = (before : Record) × HasStep Bus object (Make change) before left events

-- the bus had started the object with this record, in these steps or in those before them, and finished it in these
pub record WasSent (object : ℕ) (started left : Record) (before events : List Event) : Type 0 where
  pub start : WasChanged object change.Start started (events ++ before)
  pub finish : WasChanged object change.Finish left events

-- a store of this frame, which left this record
abbrev pub WasStored : Frame → ℕ × Record → List Event → Type 0
WasStored frame found events = WasChanged found.0 (change.Store frame) found.1 events

-- the frames that a line gives to other nodes, each with its node
abbrev pub sent_in : BusLine → List (ℕ × Frame)
sent_in (bus.Round sends) = sends.send.items
sent_in line = []

-- these steps, after those before them, show what came of a round in which other nodes sent these frames. What is stored is
-- one of them, or in loop back mode the frame of the record with which the object that was sent was started
abbrev pub RoundShownBy : List (ℕ × Frame) → RoundAnswer → List Event → List Event → Type 0
RoundShownBy sends (round.Sent object left) before events = (started : Record) × WasSent object started left before events
RoundShownBy sends (round.Received (Some found)) before events =
    (sent : ℕ × Frame) × Contains sends sent × WasStored sent.1 found events
RoundShownBy sends (round.Looped object left None) before events =
    (started : Record) × WasSent object started left before events
RoundShownBy sends (round.Looped object left (Some found)) before events =
    (started : Record) × WasSent object started left before events × WasStored (frame_of started) found events
RoundShownBy sends ended before events = Unit {0}

-- these steps show the answer to a line of the bus. Its interrupt value can also be that of the status interrupt
abbrev pub BusShownBy : Profile → BusLine → LineAnswer → List Event → List Event → Type 0
BusShownBy profile line (answer.Load (load.Loaded object left)) before events = WasChanged object change.Start left events
BusShownBy profile line (answer.Round ended) before events = RoundShownBy (sent_in line) ended before events
BusShownBy profile line (answer.Interrupt value) before events = (value ≡ 0x8000) ⊎ NamesPending Bus profile value events
BusShownBy profile line (answer.Flags flag word objects) before events = WordWasShown Bus objects flag word events
BusShownBy profile line reply before events = Unit {0}

-- the change of a step, with its object, in front of those before it
abbrev pub with_change : Operation → ℕ → List (ℕ × Change) → List (ℕ × Change)
with_change Look object earlier = earlier
with_change (Make change) object earlier = (object, change) ∷ earlier

-- the changes of a port, each with its object, the newest first
abbrev pub changes_in : PortName → List Event → List (ℕ × Change)
changes_in port [] = []
changes_in port (event ∷ earlier) =
    if same_port event.port port then with_change event.operation event.object (changes_in port earlier)
    else changes_in port earlier

-- no change, or this one of some object
abbrev pub IsAtMost : Change → List (ℕ × Change) → Type 0
IsAtMost change made = (made ≡ []) ⊎ ((object : ℕ) × (made ≡ (object, change) ∷ []))

-- these are the changes by which a round comes to its end. One that is refused in loop back mode may have finished what it
-- sent
abbrev pub RoundMakes : RoundAnswer → List (ℕ × Change) → Type 0
RoundMakes (round.Sent object left) made = made ≡ (object, change.Finish) ∷ []
RoundMakes (round.Received (Some found)) made = (frame : Frame) × (made ≡ (found.0, change.Store frame) ∷ [])
RoundMakes (round.Looped object left None) made = made ≡ (object, change.Finish) ∷ []
RoundMakes (round.Looped object left (Some found)) made =
    (frame : Frame) × (made ≡ (found.0, change.Store frame) ∷ (object, change.Finish) ∷ [])
RoundMakes (round.Busy object) made = IsAtMost change.Finish made
RoundMakes (round.Spent object) made = IsAtMost change.Finish made
RoundMakes ended made = made ≡ []

-- these are the changes that a line with this answer makes: a load the start of what it loaded, a round first the start of
-- what it loads, if it loads something, and other lines none
abbrev pub BusMakes : LineAnswer → List (ℕ × Change) → Type 0
BusMakes (answer.Load (load.Loaded object left)) made = made ≡ (object, change.Start) ∷ []
BusMakes (answer.Round ended) made =
    (last : List (ℕ × Change)) × (first : List (ℕ × Change)) × (made ≡ last ++ first)
    × IsAtMost change.Start first × RoundMakes ended last
BusMakes reply made = made ≡ []

-- a part of the history in which this line of the bus was run: its steps show the answer, and the bus made no changes in
-- it other than the line's
pub record IsBusPart (profile : Profile) (line : BusLine) (reply : LineAnswer) (before events : List Event) : Type 0 where
  pub shown : BusShownBy profile line reply before events
  pub changes : BusMakes reply (changes_in Bus events)

-- the answer is of the line's kind, and of the flag that the line names; that of a line at the controller is one that the line gives
-- to some past of the bus
abbrev pub IsBusReplyTo : Profile → BusLine → LineAnswer → Type 0
IsBusReplyTo profile bus.Load (answer.Load loading) = Unit {0}
IsBusReplyTo profile (bus.Round sends) (answer.Round ended) = Unit {0}
IsBusReplyTo profile bus.Interrupt (answer.Interrupt value) = Unit {0}
IsBusReplyTo profile (bus.Flags flag) (answer.Flags of word objects) = (of ≡ flag) × (objects ≡ profile)
IsBusReplyTo profile (bus.Controller line) reply = (past : BusPast) × (reply ≡ (controller_end line past).0)
IsBusReplyTo profile line reply = ⊥

-- each line of the bus has an answer and a part of the history, after those of the lines before it, and the bus has no
-- step after the part of its last line
abbrev pub BusInOrder : Profile → List BusLine → List LineAnswer → List Event → List Event → Type 0
BusInOrder profile [] [] before history = events_of Bus history ≡ []
BusInOrder profile (line ∷ lines) (reply ∷ replies) before history =
    (later : List Event) × (first : List Event) × (history ≡ later ++ first)
    × IsBusReplyTo profile line reply × IsBusPart profile line reply before first
    × BusInOrder profile lines replies (first ++ before) later
BusInOrder profile lines replies before history = ⊥

-- ---- a run

-- the history accounts for the outcome: it is legal, shows each answer of each port by steps of that answer's own, in the
-- port's order, and leaves the objects as they are at the end
pub record IsAnsweredBy (script : ScriptFields) (outcome : Outcome) (history : List Event) : Type 0 where
  pub legal : IsLegal script.profile history
  pub if1 : HostInOrder script.profile If1 script.if1 zero_registers outcome.if1.items history
  pub if2 : HostInOrder script.profile If2 script.if2 zero_registers outcome.if2.items history
  pub bus : BusInOrder script.profile script.bus outcome.bus.items [] history
  pub left : outcome.last.records ≡ final_records script.profile history
