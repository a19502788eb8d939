-- Calls are their processes. Source: this project's own.
use Rattle.std.specs.Prelude.{ℕ, ◌≡◌, ◌≤◌, ◌↔◌, true, List, ◌++◌, length, map, take}
use Rattle.ccan_object.specs.declared.record.Record.{Record}
use Rattle.ccan_object.specs.Profile.{objects_in}
use Rattle.ccan_accept.specs.declared.frame.Frame.{Frame}
use Rattle.ccan_confine.specs.declared.controller.Controller.{Controller}
use Rattle.ccan_confine.specs.declared.controller_change.ControllerChange.{ControllerChange}
use Rattle.ccan_ram.specs.declared.port.PortName.TheVariants.{Bus}
use Rattle.ccan_ram.specs.Terms.{Terms}
use Rattle.ccan_bus.specs.declared.choice.Choice.TheVariants.{AtOnce}
use Rattle.ccan_bus.specs.declared.round_line.Fault.{Fault}
use Rattle.ccan_bus.specs.declared.round_line.RoundLine.{RoundLine}
use Rattle.ccan_bus.specs.Past.{BusPast}
use Rattle.ccan_process.specs.Process.{Ended}
use Rattle.ccan_endless.specs.Chip.{ChipHistory, GoesFrom}
use Rattle.ccan_line.specs.Limits.{most_nodes}
use Rattle.ccan_chip.specs.declared.map.Map.{Map}
use Rattle.ccan_registers.specs.declared.interface_set.InterfaceSet.{InterfaceSet}
use Rattle.ccan_registers.specs.Resetting.{ResetsChip}
use Rattle.ccan_registers.specs.Looks.{LooksAtAll}
use Rattle.ccan_c.specs.BusCall.{BusCall, BusCallMeans, code_got as code_on}
use Rattle.ccan_c.specs.FrameCall.{BusState, CallOnBus, CallOnBusMeans, FrameCall, FrameCallMeans, frame_code}
use Rattle.ccan_c.specs.HostCall.{HostCall, HostCallMeans, code_got}
use Rattle.ccan_c.specs.Step.{CallsMean, Place as HandlePlace, own_of}
use Rattle.ccan_calls.specs.ActSteps.{HasSteps}
use Rattle.ccan_calls.specs.Answer.{Answer, CallProcess, IsAnswered, Place}
use Rattle.ccan_calls.specs.BusAsk.{asked_on, place_on}
use Rattle.ccan_calls.specs.BusCallProcess.{bus_process}
use Rattle.ccan_calls.specs.ChipProcess.{looks_at_all}
use Rattle.ccan_calls.specs.FrameAsk.{asked_of, place_after}
use Rattle.ccan_calls.specs.FrameProcess.{frame_process}
use Rattle.ccan_calls.specs.HostAsk.{asked_by, place_of}
use Rattle.ccan_calls.specs.HostCallProcess.{host_process}
use Rattle.ccan_calls.specs.Process.{Act, Out, Process}
use Rattle.ccan_calls.specs.RoundProcess.{are_senders}
use Rattle.ccan_calls.specs.Runs.{Acted, IsLineOf, Runs}
use Rattle.ccan_calls.specs.Stage.{HasDone, Stage, StandsAt}
use Rattle.ccan_calls.specs.WriteProcess.{Written, resets}
use Rattle.ccan_calls.specs.ThreadProcess.{ThreadComes, ThreadEnd, asked, code_of_call, on_bus_process, place_of_call, thread_process}

-- a process adds these events and leaves this, and the call got its answer: this code, and this in the place for the result
abbrev pub ComesTo : {State : Type 0} → Terms → ℕ → ℕ → Place → CallProcess State → ChipHistory → ChipHistory → State → Type 0
ComesTo terms tries code place process seen added left =
    (answer : Answer) × IsAnswered code place answer × Runs terms tries process seen added (answer, left)

-- a call on the handle of a host stands for exactly what the process of what it asked runs to
abbrev pub HostCallsAreProcesses : Type 0
HostCallsAreProcesses =
    (terms : Terms) (tries : ℕ) (map : Map) (call : HostCall) (own left : InterfaceSet) (seen added : ChipHistory)
    → HostCallMeans terms tries map call own seen added left
    ↔ ComesTo terms tries (code_got call) (place_of call) (host_process terms map (asked_by call) own) seen added left

-- so does a call on the bus's handle; the bus chooses at one moment, as that of a chip always does
abbrev pub BusCallsAreProcesses : Type 0
BusCallsAreProcesses =
    (terms : Terms) (tries nodes : ℕ) (map : Map) (call : BusCall) (past after : BusPast) (seen added : ChipHistory)
    → terms.port ≡ Bus → past.choice ≡ AtOnce
    → BusCallMeans terms tries nodes map call past seen added after
    ↔ ComesTo terms tries (code_on call) (place_on call) (bus_process terms map nodes (asked_on call) past) seen added after

-- and so does a call by which a chip takes part in a frame on a bus of several, or powers down in between
abbrev pub FrameCallsAreProcesses : Type 0
FrameCallsAreProcesses =
    (terms : Terms) (tries : ℕ) (call : FrameCall) (old new : BusState) (seen added : ChipHistory)
    → FrameCallMeans terms tries call old seen added new
    ↔ ComesTo terms tries (frame_code call) (place_after call) (frame_process terms (asked_of call) old) seen added new

-- among other ports, a port comes step by step to the end of a process in exactly the ways in which the process runs as a whole
abbrev pub StepsAreTheWhole : Type 0 → Type 0
StepsAreTheWhole End =
    (terms : Terms) (tries : ℕ) (process : Process End) (begun seen history : ChipHistory) (end : End)
    → HasDone terms tries process begun seen history end
    ↔ StandsAt terms tries process begun history (record { left = Ended end; seen = seen })

-- and at each moment of such a history, from the beginning of the process on, it stands somewhere
abbrev pub StandsThroughout : Type 0 → Type 0
StandsThroughout End =
    (terms : Terms) (tries : ℕ) (process : Process End) (begun part later seen : ChipHistory) (end : End)
    → HasDone terms tries process begun seen (later ++ (part ++ begun)) end
    → (stage : Stage End) × StandsAt terms tries process begun (part ++ begun) stage

-- what other nodes offer for a round is exactly one line, if each is one of at most eight nodes and sends once
abbrev pub OffersAreOneLine : Type 0
OffersAreOneLine =
    (nodes : ℕ) (sends : List (ℕ × Frame)) (fault : Fault) → nodes ≤ most_nodes → are_senders nodes sends ≡ true
    → (line : RoundLine) × IsLineOf sends fault line × ((other : RoundLine) → IsLineOf sends fault other → other ≡ line)

-- what a port itself does in an act is what the outcome of the act says
abbrev pub ActsHaveTheirSteps : Type 0
ActsHaveTheirSteps =
    (terms : Terms) (tries : ℕ) (act : Act) (seen added : ChipHistory) (out : Out act)
    → Acted terms tries act seen added out → HasSteps terms tries act out added

-- the calls of a thread on the handle of a host, one after another, stand for exactly what their one process runs to
abbrev pub HostThreadsAreProcesses : Type 0
HostThreadsAreProcesses =
    (terms : Terms) (tries : ℕ) (layout : Map) (calls : List HostCall) (old new : HandlePlace InterfaceSet)
    → CallsMean (HostCallMeans terms tries layout) calls old new
    ↔ ThreadComes terms tries code_got place_of calls
    (thread_process (host_process terms layout) (map asked_by calls) old.state) old new

-- so do those on the bus's handle
abbrev pub BusThreadsAreProcesses : Type 0
BusThreadsAreProcesses =
    (terms : Terms) (tries nodes : ℕ) (layout : Map) (calls : List CallOnBus) (old new : HandlePlace BusState)
    → terms.port ≡ Bus → old.state.past.choice ≡ AtOnce
    → CallsMean (CallOnBusMeans terms tries nodes layout) calls old new
    ↔ ThreadComes terms tries code_of_call place_of_call calls
    (thread_process (on_bus_process terms layout nodes) (map asked calls) old.state) old new

-- what the bus's port does when a chip is reset, between two meetings of its ports, is exactly what a process runs to
abbrev pub ResetsAreProcesses : Type 0
ResetsAreProcesses =
    (terms : Terms) (tries : ℕ) (reset : ControllerChange) (seen added : ChipHistory) (told : Written)
    → ResetsChip terms reset tries seen added told ↔ Runs terms tries (resets terms reset) seen added told

-- and so is what it does when a chip is saved
abbrev pub SavesAreProcesses : Type 0
SavesAreProcesses =
    (terms : Terms) (tries : ℕ) (found : Controller) (records : List Record) (seen added : ChipHistory)
    → objects_in terms.profile ≤ length records
    → LooksAtAll terms found records seen added
    ↔ Runs terms tries (looks_at_all terms.profile) seen added (found, take (objects_in terms.profile) records)

-- A history holds all that a port had seen after these calls, and no other event of the port, as the one history of a chip's
-- threads does. Then at each moment of it, from the first call on, the port stands somewhere in the process of its calls.
abbrev pub StandsInHistory : {State : Type 0} → Terms → ℕ → Process (ThreadEnd State) → HandlePlace State → HandlePlace State
    → Type 0
StandsInHistory {State} terms tries process old new =
    (part later : ChipHistory) → GoesFrom (later ++ (part ++ old.seen)) new.seen
    → own_of terms.port (later ++ (part ++ old.seen)) ≡ own_of terms.port new.seen
    → (stage : Stage (ThreadEnd State)) × StandsAt terms tries process old.seen (part ++ old.seen) stage

abbrev pub HostThreadsStand : Type 0
HostThreadsStand =
    (terms : Terms) (tries : ℕ) (layout : Map) (calls : List HostCall) (old new : HandlePlace InterfaceSet)
    → CallsMean (HostCallMeans terms tries layout) calls old new
    → StandsInHistory terms tries (thread_process (host_process terms layout) (map asked_by calls) old.state) old new

abbrev pub BusThreadsStand : Type 0
BusThreadsStand =
    (terms : Terms) (tries nodes : ℕ) (layout : Map) (calls : List CallOnBus) (old new : HandlePlace BusState)
    → terms.port ≡ Bus → old.state.past.choice ≡ AtOnce
    → CallsMean (CallOnBusMeans terms tries nodes layout) calls old new
    → StandsInHistory terms tries (thread_process (on_bus_process terms layout nodes) (map asked calls) old.state) old new
