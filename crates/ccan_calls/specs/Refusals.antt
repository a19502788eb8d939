-- A thread none of whose calls answered CCAN_BUSY or CCAN_SPENT was refused nothing but a join. Source: this project's own.
use Rattle.std.specs.Prelude.{ℕ, ◌≢◌, List, [], ◌∷◌, map}
use Rattle.ccan_ram.specs.Terms.{Terms}
use Rattle.ccan_chip.specs.declared.map.Map.{Map}
use Rattle.ccan_registers.specs.declared.interface_set.InterfaceSet.{InterfaceSet}
use Rattle.ccan_c.specs.Codes.{busy, spent}
use Rattle.ccan_c.specs.FrameCall.{BusState, CallOnBus}
use Rattle.ccan_c.specs.HostCall.{HostCall, code_got}
use Rattle.ccan_calls.specs.DeviceSteps.{CallsAskFor, DeviceStep, NoneRefused}
use Rattle.ccan_calls.specs.HostAsk.{asked_by, place_of}
use Rattle.ccan_calls.specs.HostCallProcess.{host_process}
use Rattle.ccan_calls.specs.ThreadProcess.{asked, code_of_call, on_bus_process, place_of_call, thread_process}

-- no call of these got the code for busy or for spent
abbrev pub NoneBusy : {Call : Type 0} → (Call → ℕ) → List Call → Type 0
NoneBusy code [] = Unit {0}
NoneBusy code (call ∷ calls) = (code call ≢ busy) × (code call ≢ spent) × NoneBusy code calls

-- calls on the handle of a host that ask for these steps: if no call got such a code, no step was refused
abbrev pub HostCallsReportRefusals : Type 0
HostCallsReportRefusals =
    (terms : Terms) (layout : Map) (calls : List HostCall) (own : InterfaceSet) (steps : List DeviceStep)
    → CallsAskFor code_got place_of calls (thread_process (host_process terms layout) (map asked_by calls) own) steps
    → NoneBusy code_got calls → NoneRefused steps

-- so it is with calls on the bus's handle, whose one step that no code reports is a join
abbrev pub BusCallsReportRefusals : Type 0
BusCallsReportRefusals =
    (terms : Terms) (layout : Map) (nodes : ℕ) (calls : List CallOnBus) (begun : BusState) (steps : List DeviceStep)
    → CallsAskFor code_of_call place_of_call calls (thread_process (on_bus_process terms layout nodes) (map asked calls) begun)
    steps → NoneBusy code_of_call calls → NoneRefused steps
