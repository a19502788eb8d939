-- What calls from C come to in the history of the chip: the place of a handle, and calls one after another. Source: this
-- project's own.
use Rattle.std.specs.Prelude.{ℕ, ◌≡◌, List, [], ◌∷◌, ◌++◌, Option, if◌then◌else◌}
use Rattle.ccan_ram.specs.declared.port.PortName.{PortName}
use Rattle.ccan_ram.specs.Port.{same_port}
use Rattle.ccan_endless.specs.declared.chip.ChipEvent.{ChipEvent}
use Rattle.ccan_endless.specs.declared.chip.ChipEvent.TheVariants.{OfController, OfRam}
use Rattle.ccan_endless.specs.Chip.{ChipHistory}
use Rattle.ccan_c.specs.declared.held.Held.{Held}

-- whose event it is
abbrev pub port_of_event : ChipEvent → PortName
port_of_event (OfRam e) = e.port
port_of_event (OfController e) = e.port

-- the events of a port, at objects and at the controller, in their order
abbrev pub own_of : PortName → ChipHistory → ChipHistory
own_of port [] = []
own_of port (e ∷ h) = if same_port (port_of_event e) port then e ∷ own_of port h else own_of port h

-- the place of a handle: what its calls work on, and all that its port has seen
pub record Place (State : Type 0) : Type 0 where
  pub state : State
  pub seen : ChipHistory

-- a call answers this code, makes no step of the chip and leaves this
pub record Rests {State : Type 0} (code : ℕ) (left after : State) (added : ChipHistory) (result : ℕ) : Type 0 where
  pub code_is : result ≡ code
  pub quiet : added ≡ []
  pub leaves : after ≡ left

-- calls, one after another: each adds its events in front of all that was seen before it, and finds the state as the one
-- before left it
abbrev pub CallsMean : {Call State : Type 0} → (Call → State → ChipHistory → ChipHistory → State → Type 0) → List Call
    → Place State → Place State → Type 0
CallsMean means [] old new = new ≡ old
CallsMean means (call ∷ calls) old new =
    (added : ChipHistory) × (left : _) × means call old.state old.seen added left
    × CallsMean means calls (record { state = left; seen = added ++ old.seen }) new

-- calls on a handle, one after another, lead from what the handle stood for to what it stands for, each as its contract has
-- it
abbrev pub Leads : {Call : Type 0} → (Call → Option Held → Option Held → Type 0) → List Call → Option Held → Option Held → Type 0
Leads does [] before after = after ≡ before
Leads does (call ∷ calls) before after =
    (between : Option Held) × does call before between × Leads does calls between after
