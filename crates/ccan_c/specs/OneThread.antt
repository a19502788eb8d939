-- The calls of one thread on the three handles of a chip, with a meeting before it goes on to another handle. Source: this
-- project's own, in the way of an ordered run of a script.
use Rattle.std.specs.Prelude.{◌≡◌, ◌≤◌, List, [], ◌∷◌, ◌++◌, map}
use Rattle.ccan_object.specs.declared.profile.Profile.{Profile}
use Rattle.ccan_ram.specs.declared.port.PortName.{PortName}
use Rattle.ccan_ram.specs.declared.port.PortName.TheVariants.{If1, If2, Bus}
use Rattle.ccan_ram.specs.History.{IsLegal}
use Rattle.ccan_ram.specs.Terms.{Terms, one_thread_terms}
use Rattle.ccan_endless.specs.Chip.{ChipHistory, IsControllerLegal, ram_of}
use Rattle.ccan_endless.specs.Layout.{most}
use Rattle.ccan_registers.specs.declared.interface_set.InterfaceSet.{InterfaceSet}
use Rattle.ccan_c.specs.declared.chip.Chip.{Chip}
use Rattle.ccan_c.specs.declared.shown_final.ShownFinal.{ShownFinal}
use Rattle.ccan_c.specs.FrameCall.{BusState, CallOnBus, CallOnBusMeans}
use Rattle.ccan_c.specs.Chip.{Opens, EndsWith}
use Rattle.ccan_c.specs.HostCall.{HostCall, HostCallMeans}
use Rattle.ccan_c.specs.Opening.{Set}
use Rattle.ccan_c.specs.Step.{CallsMean}
use Rattle.ccan_c.specs.Threads.{Part, at_once, meeting, opening_bus, PartsDo, Shows}

-- ---- what C does

-- calls on one handle, one after another
pub data Turn : Type 0 where
  on_if1 : List HostCall → Turn
  on_if2 : List HostCall → Turn
  on_bus : List CallOnBus → Turn

abbrev pub turn_alone : Turn → Part
turn_alone (on_if1 calls) = at_once calls [] []
turn_alone (on_if2 calls) = at_once [] calls []
turn_alone (on_bus calls) = at_once [] [] calls

-- turns, and a meeting before each of them
abbrev pub met_turns : List Turn → List Part
met_turns [] = []
met_turns (turn ∷ turns) = meeting ∷ turn_alone turn ∷ met_turns turns

-- the same, except for the first: before it there is nothing to report
abbrev pub in_turns : List Turn → List Part
in_turns [] = []
in_turns (turn ∷ turns) = turn_alone turn ∷ met_turns turns

-- ---- what it comes to

-- a call on some handle
pub data PortCall : Type 0 where
  of_if1 : HostCall → PortCall
  of_if2 : HostCall → PortCall
  of_bus : CallOnBus → PortCall

abbrev pub calls_of_turn : Turn → List PortCall
calls_of_turn (on_if1 calls) = map of_if1 calls
calls_of_turn (on_if2 calls) = map of_if2 calls
calls_of_turn (on_bus calls) = map of_bus calls

-- all calls, in their order
abbrev pub calls_of : List Turn → List PortCall
calls_of [] = []
calls_of (turn ∷ turns) = calls_of_turn turn ++ calls_of turns

-- what the calls on the three handles work on
pub record Three : Type 0 where
  pub first : InterfaceSet
  pub second : InterfaceSet
  pub bus : BusState

-- as a chip opens: registers as they begin, and a bus as it opens
abbrev pub opening_three : Set → Three
opening_three set = record { first = set.opening.own; second = set.opening.own; bus = opening_bus set.nodes }

-- a call on some handle works on what is that handle's, under its port's terms, and the rest stays
abbrev pub PortCallMeans : (PortName → Terms) → Set → PortCall → Three → ChipHistory → ChipHistory → Three → Type 0
PortCallMeans terms set (of_if1 call) three seen added left =
    (after : InterfaceSet) × HostCallMeans (terms If1) set.tries set.map call three.first seen added after
    × (left ≡ record three { first = after })
PortCallMeans terms set (of_if2 call) three seen added left =
    (after : InterfaceSet) × HostCallMeans (terms If2) set.tries set.map call three.second seen added after
    × (left ≡ record three { second = after })
PortCallMeans terms set (of_bus call) three seen added left =
    (after : BusState) × CallOnBusMeans (terms Bus) set.tries set.nodes set.map call three.bus seen added after
    × (left ≡ record three { bus = after })

-- the terms of a memory of one thread, whose ports may make as many changes as the memory numbers
abbrev pub single_terms : Profile → PortName → Terms
single_terms profile port = one_thread_terms profile port most

-- the calls ran in their order over a chip of one thread: each finds there all that those before it did, and nothing else; and C
-- gets the records that they leave
pub record RunInOrder (profile : Profile) (set : Set) (calls : List PortCall) (out : ShownFinal) : Type 0 where
  pub history : ChipHistory
  pub legal : IsLegal profile (ram_of history)
  pub steps_legal : IsControllerLegal history
  pub left : Three
  pub means : CallsMean (PortCallMeans (single_terms profile) set) calls
      (record { state = opening_three set; seen = set.opening.begun }) (record { state = left; seen = history })
  pub shows : Shows profile history out

-- the calls of one thread from the opening of a chip to its end
abbrev pub TurnsRunInOrder : Type 0
TurnsRunInOrder =
    (profile : Profile) (set : Set) (turns : List Turn) (chip last : Chip) (out : ShownFinal) → 1 ≤ set.tries
    → Opens profile set chip → PartsDo (in_turns turns) chip last → EndsWith last out
    → RunInOrder profile set (calls_of turns) out
